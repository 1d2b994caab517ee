-- The claims of specs/Claims, proved.
use Rattle.pruning.specs.Claims.{CoveredClaim}
use Rattle.pruning.proofs.PruningLaws.{covered}

pub covered_claim : CoveredClaim
unfolding CoveredClaim
covered_claim fleet table nodes n need matched v h t m c k = covered nodes n matched v h t m c k
