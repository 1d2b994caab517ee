-- What is claimed of occurrence-matched leaves. `MatchedLargerClaim` is proved as `matched_larger_claim` (proofs/Claims).
use Rattle.std.specs.Prelude.{List, ℕ, ◌%◌, ◌≤◌, length, take}
use Rattle.terms.specs.Tree.{IsTree}
use Rattle.occurrence.specs.Support.{whole_support}
use Rattle.supertrees.specs.Supertree.{OneNodeSupertree}
use Rattle.supertrees.specs.Candidate.{with_leaf}
use Rattle.rightmost.specs.Vehicles.{VehiclesNumbered}
use Rattle.matched.specs.Matched.{OccurrenceMatched, Lacks}

-- 000, lemma 6 with theorems 1 to 3: if a beginning of a pattern can have a leaf more wherever it occurs, and what follows in the pattern has no such
-- pair, then the pattern can have that leaf too, in no fewer vehicles. (`table` numbers the nodes of each vehicle: every fleet has one, crate index.)
unfoldable pub MatchedLargerClaim : Type 0
MatchedLargerClaim = (fleet table p : List ℕ) (n x b : ℕ) → VehiclesNumbered fleet table → IsTree p → n ≤ length p → OccurrenceMatched fleet (take n p) x b → Lacks p x n (length p)
    → OneNodeSupertree p (with_leaf p b (x % 1000)) × (whole_support fleet p ≤ whole_support fleet (with_leaf p b (x % 1000)))
