-- The places of a pattern's last node, listed from those of a beginning.
use Rattle.std.specs.Prelude.{◌≡◌, List, ℕ, ◌*◌, ◌≤◌, ◌<◌, length, get_or, take}
use Rattle.terms.specs.Tree.{IsTree}
use Rattle.terms.specs.Fleet.{IsFleet, most_nodes}
use Rattle.matching.specs.Limits.{most_nodes_of_a_pattern}
use Rattle.rightmost.specs.PlaceList.{Places}
use Rattle.index.specs.Index.{Parents, Sizes}
use Rattle.expansion.specs.Levels.{PlacesAt}

-- The first `count` of the list are the places of the first n pairs.
pub record Made (fleet nodes : List ℕ) (n : ℕ) (list : List ℕ) (count : ℕ) : Type 0 where
  pub few : count ≤ most_nodes
  pub are : Places (take n nodes) fleet (take count list)

-- A tree of n pairs, as large as a pattern may be, and the fleet's tables.
pub record TreeToPlace (fleet nodes : List ℕ) (n : ℕ) (parents sizes : List ℕ) : Type 0 where
  pub is_fleet : IsFleet fleet
  pub has_parents : Parents fleet parents
  pub has_sizes : Sizes fleet sizes
  pub all_nodes : length nodes ≡ most_nodes_of_a_pattern
  pub few : n ≤ most_nodes_of_a_pattern
  pub is_tree : IsTree (take n nodes)

pub record OnwardInput (fleet nodes : List ℕ) (from n : ℕ) (parents sizes list : List ℕ) (count : ℕ) : Type 0 where
  pub of : TreeToPlace fleet nodes n parents sizes
  pub some : 1 ≤ from
  pub within : from ≤ n
  pub all : length list ≡ most_nodes
  pub made : Made fleet nodes from list count

pub record ListInput (fleet nodes : List ℕ) (unmoved n : ℕ) (parents sizes places lens : List ℕ) : Type 0 where
  pub of : TreeToPlace fleet nodes n parents sizes
  pub fewer : unmoved < n
  pub none_unmoved : unmoved ≡ 0 → n ≡ 1
  pub all_places : length places ≡ most_nodes_of_a_pattern * most_nodes
  pub all_lens : length lens ≡ most_nodes_of_a_pattern
  pub placed : 1 ≤ unmoved → PlacesAt fleet nodes places unmoved (get_or lens unmoved 0)
