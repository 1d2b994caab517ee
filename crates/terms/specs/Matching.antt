-- Document 01, "Occurrence" and "The list": what a placing and the same unordered tree have in common, a matching of nodes.
use Rattle.std.specs.Prelude.{◌≡◌, List, ◌↔◌, ℕ, ◌-◌, ◌≤◌, ◌<◌, length, get_or}
use Rattle.terms.specs.Tree.{label_at, IsParent}

-- A tuple gives each node of s, in its preorder, the number of a node of t; "nodes numbered from 1 within the tree".
-- The position in t to which the position i of s is sent:
abbrev pub placeAt : List ℕ → ℕ → ℕ
placeAt tuple i = get_or tuple i 0 - 1

-- The tuple sends the nodes of s "to different nodes" of t; "labels are equal, and one node is another's parent exactly when the images are".
pub record Matching (s t tuple : List ℕ) : Type 0 where
  pub each_placed : length tuple ≡ length s
  pub from_1 : (i : ℕ) → i < length s → 1 ≤ get_or tuple i 0
  pub to_last : (i : ℕ) → i < length s → get_or tuple i 0 ≤ length t
  pub different : (i j : ℕ) → i < length s → j < length s → get_or tuple i 0 ≡ get_or tuple j 0 → i ≡ j
  pub labels : (i : ℕ) → i < length s → label_at s i ≡ label_at t (placeAt tuple i)
  pub parents : (i j : ℕ) → i < length s → j < length s → IsParent s i j ↔ IsParent t (placeAt tuple i) (placeAt tuple j)

-- "Two trees are the same up to the order of children, or one unordered tree, if their nodes match one to one with none left over,
-- labels are equal, and one node is another's parent exactly when the matches are."
pub record SameTree (s t : List ℕ) : Type 0 where
  pub tuple : List ℕ
  pub matching : Matching s t tuple
  pub none_left_over : (n : ℕ) → 1 ≤ n → n ≤ length t → (i : ℕ) × (i < length s) × (get_or tuple i 0 ≡ n)
