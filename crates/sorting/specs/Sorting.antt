-- What the functions under `sort` ask and do, by positions.
use Rattle.std.specs.Prelude.{◌≡◌, List, ℕ, ◌+◌, ◌≤◌, ◌<◌, length}
use Rattle.std.proofs.Math.Seq.{slice}
use Rattle.terms.specs.Tree.{depthAt, SubtreeEnd}
use Rattle.terms.specs.Order.{Lighter}
use Rattle.merging.specs.Merging.{Rearranged, Siblings}

-- From a to b stand siblings, and each is no lighter than its right neighbour.
pub record SiblingRun (s : List ℕ) (a b : ℕ) : Type 0 where
  pub siblings : Siblings s a b
  pub ordered : (k e f : ℕ) → a ≤ k → e < b → depthAt s k ≡ depthAt s a → SubtreeEnd s k e → depthAt s e ≡ depthAt s k → SubtreeEnd s e f → ¬ Lighter (slice k e s) (slice e f s)

-- The node at i has a child.
pub record HasChild (s : List ℕ) (i : ℕ) : Type 0 where
  pub inside : i + 1 < length s
  pub deeper : depthAt s i < depthAt s (i + 1)

-- The children of every node from i on are in order: what has a node above it there is no lighter than its right neighbour.
unfoldable pub ChildrenInOrder : List ℕ → ℕ → Type 0
ChildrenInOrder s i = (j k e f : ℕ) → i ≤ j → j < k → depthAt s j < depthAt s k → SubtreeEnd s k e → e < length s → depthAt s e ≡ depthAt s k → SubtreeEnd s e f → ¬ Lighter (slice k e s) (slice e f s)

-- t is s rearranged, the children of all nodes behind i still in order; those of i are too if r is 0, else r, more than the limit, is how many
-- pairs two runs have that were left.
pub record RunsMerged (s t : List ℕ) (i limit r : ℕ) : Type 0 where
  pub rearranged : Rearranged s t
  pub parent : HasChild t i
  pub later : ChildrenInOrder t (i + 1)
  pub done : r ≡ 0 → ChildrenInOrder t i
  pub more : 0 < r → (limit < r) × (r ≤ length s)
