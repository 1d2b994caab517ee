-- Document 01, "Pairs, trees and the fleet": pair, tree, parent, subtree.
use Rattle.std.specs.Prelude.{◌≡◌, List, ℕ, suc, ◌+◌, ◌*◌, ◌/◌, ◌%◌, ◌≤◌, ◌<◌, length, get_or}

-- "A node is a pair of depth and label, kept as one 16-bit number, 1,000 × depth + label."
abbrev pub pair : (depth label : ℕ) → ℕ
pair depth label = 1000 * depth + label

-- The depth and the label at a position. Positions count from 0; a node's number is its position plus 1.
abbrev pub depthAt : List ℕ → ℕ → ℕ
depthAt s i = get_or s i 0 / 1000

abbrev pub label_at : List ℕ → ℕ → ℕ
label_at s i = get_or s i 0 % 1000

-- "depth (0 to 15) and label (1 to 999)". That the label is at most 999 is in the remainder.
pub record IsPair (x : ℕ) : Type 0 where
  pub depth_to_15 : x / 1000 ≤ 15
  pub label_from_1 : 1 ≤ x % 1000

-- "A tree is its pairs in preorder: the first has depth 0; each later one has depth 1 to one more than the pair before it."
pub record IsTree (s : List ℕ) : Type 0 where
  pub has_root : 1 ≤ length s
  pub pairs : (i : ℕ) → i < length s → IsPair (get_or s i 0)
  pub root_depth : depthAt s 0 ≡ 0
  pub later_from_1 : (i : ℕ) → suc i < length s → 1 ≤ depthAt s (suc i)
  pub later_to_next : (i : ℕ) → suc i < length s → depthAt s (suc i) ≤ suc (depthAt s i)

-- The same without "0 to 15": a tree of any depth. Placings and the same unordered tree ask no more of a tree than that.
pub record IsTreeAnyDepth (s : List ℕ) : Type 0 where
  pub has_root : 1 ≤ length s
  pub labels_from_1 : (i : ℕ) → i < length s → 1 ≤ label_at s i
  pub root_depth : depthAt s 0 ≡ 0
  pub later_from_1 : (i : ℕ) → suc i < length s → 1 ≤ depthAt s (suc i)
  pub later_to_next : (i : ℕ) → suc i < length s → depthAt s (suc i) ≤ suc (depthAt s i)

-- Position i is the parent of position j: it stands before j, is one less deep, and all between are deeper than it.
pub record IsParent (s : List ℕ) (i j : ℕ) : Type 0 where
  pub before : i < j
  pub inside : j < length s
  pub one_deeper : depthAt s j ≡ suc (depthAt s i)
  pub between : (k : ℕ) → i < k → k < j → depthAt s i < depthAt s k

-- The same as the nearest node before j that is one less deep: `parent_nearest`.
pub record Nearest (s : List ℕ) (i j : ℕ) : Type 0 where
  pub before : i < j
  pub inside : j < length s
  pub one_deeper : depthAt s j ≡ suc (depthAt s i)
  pub none_nearer : (k : ℕ) → i < k → k < j → ¬ (depthAt s j ≡ suc (depthAt s k))

-- The subtree of position i, the node and all below it, stands from i up to, not including, e.
pub record SubtreeEnd (s : List ℕ) (i e : ℕ) : Type 0 where
  pub after : i < e
  pub within : e ≤ length s
  pub deeper : (k : ℕ) → i < k → k < e → depthAt s i < depthAt s k
  pub stop : e < length s → depthAt s e ≤ depthAt s i
