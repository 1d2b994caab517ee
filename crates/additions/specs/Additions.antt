-- The trees that are a pattern with a leaf more below its rightmost branch, and what tells which of them are held often enough.
use Rattle.std.specs.Prelude.{◌≡◌, List, [], ◌∷◌, ◌++◌, ℕ, ◌%◌, ◌≤◌, length, get_or}
use Rattle.terms.specs.Tree.{IsTree}
use Rattle.matching.specs.Limits.{most_nodes_of_a_pattern}
use Rattle.occurrence.specs.Support.{whole_support}
use Rattle.rightmost.specs.Ends.{NewChild, children}
use Rattle.rightmost.specs.PlaceList.{Places}
use Rattle.rightmost.specs.Counts.{top_of}
use Rattle.index.specs.Index.{Indexed}
use Rattle.noting.specs.Noting.{GatherFrom}

-- Some leaf more below the branch: with it as many vehicles as needed hold the tree.
pub record LeafReaches (fleet : List ℕ) (need : ℕ) (pattern : List ℕ) : Type 0 where
  pub pair : ℕ
  pub node : ℕ
  pub new_child : NewChild pattern pair node
  pub enough : need ≤ whole_support fleet (pattern ++ pair ∷ [])

-- A tree, as large as a pattern may be, with the places of its last node and the fleet's tables, and a number to reach.
pub record LeafInput (pattern fleet parents numbers sizes places : List ℕ) (need : ℕ) : Type 0 where
  pub is_tree : IsTree pattern
  pub few : length pattern ≤ most_nodes_of_a_pattern
  pub indexed : Indexed fleet parents numbers sizes
  pub listed : Places pattern fleet places
  pub from_1 : 1 ≤ need

-- The table tells of each pair that may follow how many children of its label the branch's node has.
pub record Own (pattern own : List ℕ) : Type 0 where
  pub room : top_of pattern ≤ length own
  pub counted : (x b : ℕ) → NewChild pattern x b → get_or own x 0 ≡ children pattern b (x % 1000)

-- A table of zeros for it.
pub record OwnNone (pattern own : List ℕ) : Type 0 where
  pub room : top_of pattern ≤ length own
  pub none : (x : ℕ) → get_or own x 0 ≡ 0

-- All places are to be noted; the table of counts has no entry but for the pairs that may follow.
pub record LeavesToNote (pattern fleet parents numbers sizes places own counts last : List ℕ) (need : ℕ) : Type 0 where
  pub from : GatherFrom pattern fleet parents numbers sizes places counts last
  pub is_own : Own pattern own
  pub exact : length counts ≡ top_of pattern
  pub from_1 : 1 ≤ need
