-- The claims on which the test of a form for larger frequent trees rests. `LastLeafClaim` is proved as `last_leaf_claim`, and so on (proofs/Claims).
use Rattle.std.specs.Prelude.{◌↔◌, List, [], ◌∷◌, ◌++◌, ℕ, suc, ◌≤◌, ◌<◌, length, get_or}
use Rattle.terms.specs.Tree.{IsTree}
use Rattle.terms.specs.Matching.{SameTree}
use Rattle.terms.specs.Placing.{Occurs}
use Rattle.terms.specs.Fleet.{vehicles, IsFleet}
use Rattle.occurrence.specs.Support.{whole_support}
use Rattle.supertrees.specs.Supertree.{OneNodeSupertree, LargerReaches}
use Rattle.supertrees.specs.Candidate.{with_leaf, with_root}
use Rattle.rightmost.specs.Ends.{Up, NewChild}
use Rattle.rightmost.specs.Vehicles.{VehicleNumbered}
use Rattle.turned.specs.Turned.{TurnedToEnd, IsLeaf}
use Rattle.turned.specs.AboveRoot.{RootNoted}

-- A new leaf below node i is, if a node at or below i is turned to the end, a new last leaf;
unfoldable pub LastLeafClaim : Type 0
LastLeafClaim = (p r : List ℕ) (leaf i label k : ℕ) → IsTree p → i < length p → label ≤ 999 → IsTree (with_leaf p i label) → Up p i k leaf → TurnedToEnd p leaf r
    → (x b : ℕ) × NewChild r x b × SameTree (r ++ x ∷ []) (with_leaf p i label)

-- and every new last leaf makes a supertree of one more node.
unfoldable pub LastLeafLargerClaim : Type 0
LastLeafLargerClaim = (p r : List ℕ) (leaf x b : ℕ) → IsTree p → TurnedToEnd p leaf r → NewChild r x b → OneNodeSupertree p (r ++ x ∷ [])

-- A vehicle holds the pattern with a new root exactly if it is noted.
unfoldable pub NewRootClaim : Type 0
NewRootClaim = (fleet table p : List ℕ) (label i : ℕ) → IsTree p → 1 ≤ label → label ≤ 999 → VehicleNumbered fleet table i
    → Occurs (with_root p label) (get_or (vehicles fleet) i []) ↔ RootNoted p label fleet table (suc i)

-- So it is enough to look at new roots, and at new last leaves for each leaf turned to the end.
unfoldable pub NoneReachesClaim : Type 0
NoneReachesClaim = (fleet p : List ℕ) (need : ℕ) → IsFleet fleet → IsTree p → 1 ≤ need → ((label : ℕ) → 1 ≤ label → label ≤ 999 → whole_support fleet (with_root p label) < need)
    → ((leaf : ℕ) → IsLeaf p leaf → (r : List ℕ) × TurnedToEnd p leaf r × ((x b : ℕ) → NewChild r x b → whole_support fleet (r ++ x ∷ []) < need)) → ¬ LargerReaches (whole_support fleet) need p
