-- What the private functions that list places are given, and what they leave in the list.
use Rattle.std.specs.Prelude.{◌≡◌, Bool, List, ℕ, ◌+◌, ◌%◌, ◌≤◌, length}
use Rattle.terms.specs.Tells.{Tells}
use Rattle.terms.specs.Fleet.{IsFleet, most_nodes}
use Rattle.matching.specs.Limits.{most_nodes_of_a_pattern}
use Rattle.rightmost.specs.Ends.{last_of, NewChild, LeavesOnly, children}
use Rattle.rightmost.specs.PlaceList.{Places, Kids, Rising}
use Rattle.index.specs.Index.{Sizes, ChildInput}
use Rattle.groups.specs.Putting.{PutBehind}

-- A node d, a pair that a child of it may be, and room for all such children.
pub record ChildrenInput (fleet sizes : List ℕ) (d pair : ℕ) (list : List ℕ) (len : ℕ) : Type 0 where
  pub child : ChildInput fleet sizes d pair
  pub few : len + children fleet d (pair % 1000) ≤ most_nodes
  pub room : most_nodes ≤ length list

-- All children of d with the label are put behind the first `len`.
pub record ChildrenPut (fleet : List ℕ) (d label : ℕ) (list : List ℕ) (len : ℕ) (list' : List ℕ) (end : ℕ) : Type 0 where
  pub kids : List ℕ
  pub all : Rising fleet d label kids
  pub many : length kids ≡ children fleet d label
  pub behind : PutBehind list len kids list' end

-- The children of d, a place of b, where x, a new child of b, can be are put there.
pub record KidsPut (pattern : List ℕ) (x b : ℕ) (fleet : List ℕ) (d : ℕ) (list : List ℕ) (len : ℕ) (list' : List ℕ) (end : ℕ) : Type 0 where
  pub kids : List ℕ
  pub are_kids : Kids pattern fleet b d (x % 1000) kids
  pub behind : PutBehind list len kids list' end

-- How many children of b are like x, whether they are all leaves, and room for as many places as there are nodes.
pub record EqualsInput (pattern : List ℕ) (x b equal : ℕ) (leaves : Bool) (fleet : List ℕ) (d : ℕ) (list : List ℕ) (len : ℕ) : Type 0 where
  pub counted : equal ≡ children pattern b (x % 1000)
  pub told : Tells leaves (LeavesOnly pattern b (x % 1000))
  pub few : len + children fleet d (x % 1000) ≤ most_nodes
  pub room : most_nodes ≤ length list

-- x is a new child of the last node, whose places are given; there is room for as many as the fleet has nodes.
pub record BelowInput (before : List ℕ) (x : ℕ) (fleet sizes old new : List ℕ) : Type 0 where
  pub is_fleet : IsFleet fleet
  pub has_sizes : Sizes fleet sizes
  pub new_child : NewChild before x (last_of before)
  pub few : length before ≤ most_nodes_of_a_pattern
  pub places : Places before fleet old
  pub room : most_nodes ≤ length new
