-- What the test of a pattern for new roots is given, and what it tells.
use Rattle.std.specs.Prelude.{◌≡◌, List, ℕ, suc, ◌≤◌, ◌<◌, length}
use Rattle.terms.specs.Tree.{label_at, IsTree}
use Rattle.terms.specs.Fleet.{IsFleet}
use Rattle.occurrence.specs.Support.{whole_support}
use Rattle.rightmost.specs.Ends.{Up}
use Rattle.rightmost.specs.PlaceList.{Places}
use Rattle.supertrees.specs.Candidate.{with_root}
use Rattle.index.specs.Index.{Parents, Numbers}
use Rattle.noting.specs.Noting.{Room}

-- The node right above the ancestor of a place, so many steps up, has this label. (Of a last place of a pattern, so many steps as its last node is
-- deep, that is what `AboveRoot` says.)
pub record LabelAbove (fleet : List ℕ) (steps place label : ℕ) : Type 0 where
  pub node : ℕ
  pub up : Up fleet node (suc steps) place
  pub has_label : label_at fleet node ≡ label

-- A place of which this label is to be noted.
pub record RootToNote (fleet parents : List ℕ) (place depth number : ℕ) (counts last : List ℕ) : Type 0 where
  pub is_fleet : IsFleet fleet
  pub has_parents : Parents fleet parents
  pub inside : place < length fleet
  pub room : Room (LabelAbove fleet depth place) number counts last

-- A tree with the places of its last node, the fleet's tables, and a number to reach.
pub record RootInput (pattern : List ℕ) (need : ℕ) (fleet parents numbers places : List ℕ) : Type 0 where
  pub is_tree : IsTree pattern
  pub is_fleet : IsFleet fleet
  pub has_parents : Parents fleet parents
  pub has_numbers : Numbers fleet numbers
  pub listed : Places pattern fleet places
  pub from_1 : 1 ≤ need

-- So many vehicles hold the pattern with some new root above it.
pub record RootReaches (fleet : List ℕ) (need : ℕ) (pattern : List ℕ) : Type 0 where
  pub label : ℕ
  pub from_1 : 1 ≤ label
  pub to_999 : label ≤ 999
  pub enough : need ≤ whole_support fleet (with_root pattern label)
