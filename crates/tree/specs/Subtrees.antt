-- Subtrees by positions, for the contracts of `end_from` and `subtree::left`.
use Rattle.std.specs.Prelude.{List, ℕ, ◌-◌, ◌≤◌, ◌<◌, length}
use Rattle.terms.specs.Tree.{depthAt}

-- The node at j has a left neighbour: it is no deeper than the node before it.
pub record HasLeft (s : List ℕ) (j : ℕ) : Type 0 where
  pub later : 0 < j
  pub inside : j < length s
  pub no_deeper : depthAt s j ≤ depthAt s (j - 1)

-- All behind the node at i, up to b, is below it.
pub record AllBelow (s : List ℕ) (i b : ℕ) : Type 0 where
  pub some : i < b
  pub within : b ≤ length s
  pub below : (k : ℕ) → i < k → k < b → depthAt s i < depthAt s k
