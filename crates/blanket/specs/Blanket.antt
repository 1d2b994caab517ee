-- What the test of a pattern for larger frequent trees is given, and what its parts tell.
use Rattle.std.specs.Prelude.{◌≡◌, Bool, true, false, List, ℕ, suc, ◌+◌, ◌*◌, ◌≤◌, ◌<◌, length, get_or, take}
use Rattle.terms.specs.Tree.{depthAt, IsTree}
use Rattle.terms.specs.Fleet.{most_nodes}
use Rattle.matching.specs.Limits.{most_nodes_of_a_pattern}
use Rattle.occurrence.specs.Support.{whole_support}
use Rattle.supertrees.specs.Supertree.{LargerReaches}
use Rattle.turned.specs.Turned.{TurnedToEnd, IsLeaf}
use Rattle.index.specs.Index.{Indexed}
use Rattle.expansion.specs.Levels.{PlacesAt}
use Rattle.additions.specs.Additions.{LeafReaches}

-- A tree of n pairs, at most a pattern's, with the fleet's tables and the places of all its shorter beginnings, and a number to reach.
pub record ReachesInput (fleet nodes : List ℕ) (n need : ℕ) (parents numbers sizes places lens : List ℕ) : Type 0 where
  pub indexed : Indexed fleet parents numbers sizes
  pub all_nodes : length nodes ≡ most_nodes_of_a_pattern
  pub few : n ≤ most_nodes_of_a_pattern
  pub is_tree : IsTree (take n nodes)
  pub all_places : length places ≡ most_nodes_of_a_pattern * most_nodes
  pub all_lens : length lens ≡ most_nodes_of_a_pattern
  pub placed : (k : ℕ) → 1 ≤ k → k < n → PlacesAt fleet nodes places k (get_or lens k 0)
  pub from_1 : 1 ≤ need

-- Turned so that the leaf stands last, the pattern reaches the number with a leaf more at its branch, or it does not.
pub record Reached (fleet : List ℕ) (need : ℕ) (pattern : List ℕ) (leaf : ℕ) : Type 0 where
  pub turned : List ℕ
  pub to_end : TurnedToEnd pattern leaf turned
  pub reaches : LeafReaches fleet need turned

pub record NotReached (fleet : List ℕ) (need : ℕ) (pattern : List ℕ) (leaf : ℕ) : Type 0 where
  pub turned : List ℕ
  pub to_end : TurnedToEnd pattern leaf turned
  pub none : ¬ LeafReaches fleet need turned

-- What the answer tells of a leaf, and of a node that is none.
pub record LeafTold (fleet : List ℕ) (need : ℕ) (pattern : List ℕ) (leaf : ℕ) (r : Bool) : Type 0 where
  pub yes_told : r ≡ true → Reached fleet need pattern leaf
  pub no_told : r ≡ false → IsLeaf pattern leaf → NotReached fleet need pattern leaf

-- A node and the one behind it are equal leaves; that is not the last of the first n.
pub record EqualLeaves (nodes : List ℕ) (n leaf : ℕ) : Type 0 where
  pub not_last : leaf + 2 < n
  pub equal : get_or nodes leaf 0 ≡ get_or nodes (leaf + 1) 0
  pub no_deeper : depthAt nodes (leaf + 2) ≤ depthAt nodes leaf

-- What it tells of all leaves but the last node.
pub record OthersTold (fleet : List ℕ) (need : ℕ) (pattern : List ℕ) (r : Bool) : Type 0 where
  pub yes_told : r ≡ true → LargerReaches (whole_support fleet) need pattern
  pub no_told : r ≡ false → (leaf : ℕ) → suc leaf < length pattern → IsLeaf pattern leaf → NotReached fleet need pattern leaf
