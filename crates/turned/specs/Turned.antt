-- A tree with its children in another order, so that one of its nodes stands last: then that node's ancestors are the rightmost branch.
use Rattle.std.specs.Prelude.{◌≡◌, List, ℕ, suc, ◌≤◌, ◌<◌, length, get_or}
use Rattle.terms.specs.Tree.{depthAt, IsTree}
use Rattle.terms.specs.Matching.{SameTree}
use Rattle.rightmost.specs.Ends.{last_of}

-- The same unordered tree, the node of the pattern at a place.
pub record TurnedTo (pattern : List ℕ) (node : ℕ) (turned : List ℕ) (place : ℕ) : Type 0 where
  pub is_tree : IsTree turned
  pub same : SameTree pattern turned
  pub inside : node < length pattern
  pub there : get_or same.tuple node 0 ≡ suc place

-- At the end.
abbrev pub TurnedToEnd : (pattern : List ℕ) (node : ℕ) (turned : List ℕ) → Type 0
TurnedToEnd pattern node turned = TurnedTo pattern node turned (last_of turned)

-- A leaf: no node is below it. (The first child of a node follows it.)
pub record IsLeaf (s : List ℕ) (leaf : ℕ) : Type 0 where
  pub inside : leaf < length s
  pub none_below : suc leaf < length s → depthAt s (suc leaf) ≤ depthAt s leaf
