-- Document 01, "Form and weight": the form of a tree, and left-heavy.
use Rattle.std.specs.Prelude.{◌≡◌, List, ℕ, ◌<◌, length, take, drop}
use Rattle.terms.specs.Tree.{depthAt, IsTree, SubtreeEnd}
use Rattle.terms.specs.Order.{Lighter}
use Rattle.terms.specs.Matching.{SameTree}

-- "The form of a tree is the heaviest sequence among all orders of children": among the trees that are the same.
pub record IsForm (s form : List ℕ) : Type 0 where
  pub is_tree : IsTree form
  pub same : SameTree s form
  pub none_heavier : (other : List ℕ) → IsTree other → SameTree s other → ¬ Lighter form other

-- "in its form", or canonical
abbrev pub InForm : List ℕ → Type 0
InForm s = IsForm s s

-- The first node's subtree is no lighter than that of its right neighbour, if it has one.
unfoldable pub NoLighterThanNext : List ℕ → Type 0
NoLighterThanNext s = (n m : ℕ) → SubtreeEnd s 0 n → n < length s → depthAt s n ≡ depthAt s 0 → SubtreeEnd (drop n s) 0 m → ¬ Lighter (take n s) (take m (drop n s))

-- "Equivalently, each child's subtree is no lighter than its right neighbour's." That it is equivalent is `left_heavy_exactly`.
unfoldable pub LeftHeavy : List ℕ → Type 0
LeftHeavy s = (i : ℕ) → i < length s → NoLighterThanNext (drop i s)
