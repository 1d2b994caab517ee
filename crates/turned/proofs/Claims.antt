-- The claims of specs/Claims, proved.
use Rattle.turned.specs.Claims.{LastLeafClaim, LastLeafLargerClaim, NewRootClaim, NoneReachesClaim}
use Rattle.turned.proofs.TurnedLaws.{turned_larger}
use Rattle.turned.proofs.LeafLaws.{last_leaf, none_reaches}
use Rattle.turned.proofs.RootLaws.{new_root_candidate, root_noted_exactly}

pub last_leaf_claim : LastLeafClaim
unfolding LastLeafClaim
last_leaf_claim p r leaf i label k tp h top tw u t = let z = last_leaf tp h top tw u t in (z.x, z.b, z.new_child, z.same)

pub last_leaf_larger_claim : LastLeafLargerClaim
unfolding LastLeafLargerClaim
last_leaf_larger_claim p r leaf x b tp t e = turned_larger tp t e

pub new_root_claim : NewRootClaim
unfolding NewRootClaim
new_root_claim fleet table p label i tp a b v = root_noted_exactly tp (new_root_candidate tp a b) v

pub none_reaches_claim : NoneReachesClaim
unfolding NoneReachesClaim
none_reaches_claim fleet p need f tp h roots leaves = none_reaches f tp h roots leaves
