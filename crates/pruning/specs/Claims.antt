-- What is claimed of the forms that are covered. `CoveredClaim` is proved as `covered_claim` (proofs/Claims).
use Rattle.std.specs.Prelude.{Option, List, ℕ, ◌≤◌, length, take}
use Rattle.terms.specs.Tree.{IsTree}
use Rattle.occurrence.specs.Support.{whole_support}
use Rattle.supertrees.specs.Supertree.{LargerReaches}
use Rattle.rightmost.specs.Vehicles.{VehiclesNumbered}
use Rattle.pruning.specs.Pruning.{MatchedBeginning, Covers}
use Rattle.pruning.specs.declared.Matched.{Matched}

-- A covered pattern has a supertree of one more node in no fewer vehicles: it is not closed, nor, if it reaches the threshold, maximal.
unfoldable pub CoveredClaim : Type 0
CoveredClaim = (fleet table nodes : List ℕ) (n need : ℕ) (matched : Option Matched) → VehiclesNumbered fleet table → n ≤ length nodes → IsTree (take n nodes)
    → MatchedBeginning fleet nodes n matched → Covers matched nodes n → need ≤ whole_support fleet (take n nodes) → LargerReaches (whole_support fleet) need (take n nodes)
