-- What the functions that list the places of the last node are given.
use Rattle.std.specs.Prelude.{List, [], ◌∷◌, ◌++◌, ℕ, ◌≤◌, ◌<◌, length}
use Rattle.terms.specs.Tree.{IsTree}
use Rattle.terms.specs.Fleet.{IsFleet, most_nodes}
use Rattle.matching.specs.Limits.{most_nodes_of_a_pattern}
use Rattle.rightmost.specs.PlaceList.{Places}
use Rattle.index.specs.Index.{Parents, Sizes}

-- The places `old` of the last node of the pattern without its last pair x; there is room for as many as the fleet has nodes.
pub record LongerInput (before : List ℕ) (x : ℕ) (fleet parents sizes old new : List ℕ) : Type 0 where
  pub is_fleet : IsFleet fleet
  pub has_parents : Parents fleet parents
  pub has_sizes : Sizes fleet sizes
  pub is_tree : IsTree before
  pub longer_tree : IsTree (before ++ x ∷ [])
  pub few : length before < most_nodes_of_a_pattern
  pub places : Places before fleet old
  pub room : most_nodes ≤ length new
