-- The claims of specs/Claims, proved.
use Rattle.rightmost.specs.Claims.{BranchPlacesClaim, LeftoverChildClaim, LastPlaceClaim, NextPairClaim}
use Rattle.rightmost.proofs.BranchLaws.{branch_exactly}
use Rattle.rightmost.proofs.SupportByPlaces.{spare_exactly}
use Rattle.rightmost.proofs.SeatLaws.{last_by_seats}
use Rattle.rightmost.proofs.NextPairLaws.{next_exactly}

pub branch_places_claim : BranchPlacesClaim
unfolding BranchPlacesClaim
branch_places_claim p tree e b d t o = branch_exactly t o

pub leftover_child_claim : LeftoverChildClaim
unfolding LeftoverChildClaim
leftover_child_claim p tree x b d e = spare_exactly e

pub last_place_claim : LastPlaceClaim
unfolding LastPlaceClaim
last_place_claim p tree x b d w e = last_by_seats e

pub next_pair_claim : NextPairClaim
unfolding NextPairClaim
next_pair_claim p x b f e = next_exactly f e
