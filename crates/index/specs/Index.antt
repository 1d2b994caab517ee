-- The tables of a fleet: for each node its parent, the number of its vehicle, and how many nodes of its subtree follow it.
use Rattle.std.specs.Prelude.{◌≡◌, List, ℕ, suc, ◌+◌, ◌/◌, ◌≤◌, ◌<◌, length, get_or}
use Rattle.terms.specs.Tree.{depthAt, IsParent, SubtreeEnd}
use Rattle.terms.specs.Fleet.{IsFleet, most_trees, most_nodes}
use Rattle.rightmost.specs.Vehicles.{VehiclesNumbered}

-- The parent of each node that has one. Of a root, and in all three tables behind the last node, what the table holds is free.
pub record Parents (fleet parents : List ℕ) : Type 0 where
  pub all : length parents ≡ most_nodes
  pub room : length fleet ≤ most_nodes
  pub each : (i : ℕ) → i < length fleet → 1 ≤ depthAt fleet i → IsParent fleet (get_or parents i 0) i

-- The number of each node's vehicle, from 1.
pub record Numbers (fleet numbers : List ℕ) : Type 0 where
  pub all : length numbers ≡ most_nodes
  pub are : VehiclesNumbered fleet numbers
  pub few : (i : ℕ) → i < length fleet → get_or numbers i 0 ≤ most_trees

-- How many nodes of its subtree follow each node.
pub record Sizes (fleet sizes : List ℕ) : Type 0 where
  pub all : length sizes ≡ most_nodes
  pub each : (i : ℕ) → i < length fleet → SubtreeEnd fleet i (i + 1 + get_or sizes i 0)
  pub small : (i : ℕ) → i < length fleet → get_or sizes i 0 ≤ 255

-- Of the nodes before `end` the last child of a node stands so far behind it; 0 if none of them is one.
pub record LastChild (fleet : List ℕ) (end node far : ℕ) : Type 0 where
  pub child : 0 < far → IsParent fleet node (node + far)
  pub last : (c : ℕ) → c < end → IsParent fleet node c → c ≤ node + far

-- How far behind each node its last child stands.
pub record LastChildren (fleet distances : List ℕ) : Type 0 where
  pub all : length distances ≡ most_nodes
  pub each : (i : ℕ) → i < length fleet → LastChild fleet (length fleet) i (get_or distances i 0)

-- A fleet, and room for its tables.
pub record IndexInput (fleet parents numbers sizes : List ℕ) : Type 0 where
  pub is_fleet : IsFleet fleet
  pub all_parents : length parents ≡ most_nodes
  pub all_numbers : length numbers ≡ most_nodes
  pub all_sizes : length sizes ≡ most_nodes

-- The tables are the fleet's.
pub record Indexed (fleet parents numbers sizes : List ℕ) : Type 0 where
  pub is_fleet : IsFleet fleet
  pub has_parents : Parents fleet parents
  pub has_numbers : Numbers fleet numbers
  pub has_sizes : Sizes fleet sizes

-- A node d, and a pair that a child of it may be.
pub record ChildInput (fleet sizes : List ℕ) (d pair : ℕ) : Type 0 where
  pub is_fleet : IsFleet fleet
  pub has_sizes : Sizes fleet sizes
  pub inside : d < length fleet
  pub one_deeper : pair / 1000 ≡ suc (depthAt fleet d)

-- Of the nodes below d, 32 or more, the middle one and the last are lighter than a pair two deeper than d with its label: likely children of d.
pub record LooksFlat (fleet sizes : List ℕ) (d : ℕ) : Type 0 where
  pub many : 32 ≤ get_or sizes d 0
  pub middle : get_or fleet (d + get_or sizes d 0 / 2) 0 < get_or fleet d 0 + 2000
  pub last : get_or fleet (d + get_or sizes d 0) 0 < get_or fleet d 0 + 2000
