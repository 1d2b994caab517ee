-- What is claimed of supertrees, closed and maximal patterns. `OneNodeBetweenClaim` is proved as `one_node_between_claim`, and so on (proofs/Claims).
use Rattle.std.specs.Prelude.{◌≡◌, ◌↔◌, List, ℕ, ◌≤◌, ◌<◌, length}
use Rattle.terms.specs.Tree.{IsTreeAnyDepth}
use Rattle.terms.specs.Matching.{SameTree}
use Rattle.terms.specs.Placing.{Occurs}
use Rattle.terms.specs.Fleet.{IsFleet, most_nodes_of_a_tree}
use Rattle.occurrence.specs.Support.{support, whole_support, NeverGrows}
use Rattle.supertrees.specs.Supertree.{ProperSupertree, OneNodeSupertree, Closed, Maximal, LargerReaches}
use Rattle.supertrees.specs.Candidate.{Candidate, candidate_tree, IsCandidate}

-- Between a pattern and a proper supertree stands one of one more node.
unfoldable pub OneNodeBetweenClaim : Type 0
OneNodeBetweenClaim = (pattern tree : List ℕ) → IsTreeAnyDepth pattern → ProperSupertree pattern tree → (between : List ℕ) × OneNodeSupertree pattern between × Occurs between tree

-- Up to the order of children these are the tree with a new leaf below a node, and the tree with a new root.
unfoldable pub CandidatesClaim : Type 0
CandidatesClaim = (pattern tree : List ℕ) → IsTreeAnyDepth pattern → IsTreeAnyDepth tree
    → OneNodeSupertree pattern tree ↔ ((c : Candidate) × IsCandidate pattern c × SameTree (candidate_tree pattern c) tree)

-- "Show that looking at supertrees of one more node is enough." So it is by every count that never grows.
unfoldable pub MaximalByOneNodeClaim : Type 0
MaximalByOneNodeClaim = (count : List ℕ → ℕ) (threshold : ℕ) (pattern : List ℕ) → NeverGrows count → IsTreeAnyDepth pattern
    → Maximal count threshold pattern ↔ (¬ LargerReaches count threshold pattern)

unfoldable pub ClosedByOneNodeClaim : Type 0
ClosedByOneNodeClaim = (count : List ℕ → ℕ) (pattern : List ℕ) → NeverGrows count → IsTreeAnyDepth pattern
    → Closed count pattern ↔ (¬ LargerReaches count (count pattern) pattern)

-- "a maximal form is always closed"
unfoldable pub MaximalClosedClaim : Type 0
MaximalClosedClaim = (count : List ℕ → ℕ) (threshold : ℕ) (pattern : List ℕ) → threshold ≤ count pattern → Maximal count threshold pattern → Closed count pattern

-- Closed and maximal are of unordered trees.
unfoldable pub SameClosedClaim : Type 0
SameClosedClaim = (count : List ℕ → ℕ) (s t : List ℕ) → NeverGrows count → IsTreeAnyDepth s → IsTreeAnyDepth t → SameTree s t → Closed count s ↔ Closed count t

unfoldable pub SameMaximalClaim : Type 0
SameMaximalClaim = (count : List ℕ → ℕ) (threshold : ℕ) (s t : List ℕ) → IsTreeAnyDepth s → IsTreeAnyDepth t → SameTree s t → Maximal count threshold s ↔ Maximal count threshold t

-- By the support: that of a supertree is never larger, and in an accepted fleet no vehicle holds a tree larger than a vehicle's.
unfoldable pub SupertreeNoLargerClaim : Type 0
SupertreeNoLargerClaim = (fleet pattern tree : List ℕ) → IsTreeAnyDepth pattern → ProperSupertree pattern tree → support fleet tree ≤ support fleet pattern

unfoldable pub TooLargeClaim : Type 0
TooLargeClaim = (fleet tree : List ℕ) → IsFleet fleet → most_nodes_of_a_tree < length tree → (support fleet tree ≡ 0) × (whole_support fleet tree ≡ 0)

-- Closed and maximal trees tell of every tree that is counted: by a count that is 0 for large trees it occurs in a closed one with its count,
unfoldable pub ClosedAboveClaim : Type 0
ClosedAboveClaim = (count : List ℕ → ℕ) (most : ℕ) (pattern : List ℕ) → NeverGrows count → ((tree : List ℕ) → most < length tree → count tree ≡ 0)
    → IsTreeAnyDepth pattern → 1 ≤ count pattern → (tree : List ℕ) × IsTreeAnyDepth tree × Occurs pattern tree × (count tree ≡ count pattern) × Closed count tree

-- and, if it reaches the threshold, in a maximal one that does.
unfoldable pub MaximalAboveClaim : Type 0
MaximalAboveClaim = (count : List ℕ → ℕ) (most threshold : ℕ) (pattern : List ℕ) → NeverGrows count → ((tree : List ℕ) → most < length tree → count tree ≡ 0)
    → IsTreeAnyDepth pattern → 1 ≤ threshold → threshold ≤ count pattern → (tree : List ℕ) × IsTreeAnyDepth tree × Occurs pattern tree × (threshold ≤ count tree) × Maximal count threshold tree
