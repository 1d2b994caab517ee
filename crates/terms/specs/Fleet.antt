-- Document 01, "Pairs, trees and the fleet": limits, the vehicles' trees, families, an accepted fleet.
use Rattle.std.specs.Prelude.{◌≡◌, List, [], ◌∷◌, ◌++◌, ℕ, zero, suc, ◌/◌, ◌≤◌, ◌<◌, length, get_or}
use Rattle.terms.specs.Tree.{depthAt, label_at, IsTree, IsParent}

-- The fleet's limits. In code they are the constants of `fleet::Fleet`; `fleet::stated_limits` ties the two.
abbrev pub most_trees : ℕ
most_trees = 64

abbrev pub most_nodes_of_a_tree : ℕ
most_nodes_of_a_tree = 256

abbrev pub most_nodes : ℕ
most_nodes = 4096

abbrev pub most_depth : ℕ
most_depth = 15

-- One more pair in front of trees end to end; the second number is the depth of the pair that follows it. "Depth 0 begins a tree."
unfoldable pub in_front : ℕ → ℕ → List (List ℕ) → List (List ℕ)
in_front x zero trees = (x ∷ []) ∷ trees
in_front x (suc d) [] = (x ∷ []) ∷ []
in_front x (suc d) (tree ∷ trees) = (x ∷ tree) ∷ trees

-- The vehicles' trees of a fleet's pairs. "A vehicle's tree is a stretch of the fleet's pairs": vehicle number n has the tree at n - 1.
unfoldable pub vehicles : List ℕ → List (List ℕ)
vehicles [] = []
vehicles (x ∷ []) = (x ∷ []) ∷ []
vehicles (x ∷ y ∷ s) = in_front x (y / 1000) (vehicles (y ∷ s))

-- The other way: the pairs of "trees end to end". `vehicles_join` ties the two.
unfoldable pub end_to_end : List (List ℕ) → List ℕ
end_to_end [] = []
end_to_end (tree ∷ trees) = tree ++ end_to_end trees

-- "A label's family is its hundreds digit."
abbrev pub family : ℕ → ℕ
family label = label / 100

-- "Ten rows of ten marks say which family may stand under which": a row for each family below, a column for each family above.
unfoldable pub marks : List (List ℕ)
marks = (0 ∷ 0 ∷ 0 ∷ 0 ∷ 0 ∷ 0 ∷ 0 ∷ 0 ∷ 0 ∷ 0 ∷ [])
    ∷ (0 ∷ 0 ∷ 0 ∷ 0 ∷ 0 ∷ 0 ∷ 0 ∷ 0 ∷ 0 ∷ 0 ∷ [])
    ∷ (0 ∷ 1 ∷ 0 ∷ 0 ∷ 0 ∷ 0 ∷ 0 ∷ 0 ∷ 0 ∷ 0 ∷ [])
    ∷ (0 ∷ 0 ∷ 1 ∷ 0 ∷ 0 ∷ 0 ∷ 0 ∷ 0 ∷ 0 ∷ 0 ∷ [])
    ∷ (0 ∷ 0 ∷ 0 ∷ 1 ∷ 1 ∷ 0 ∷ 0 ∷ 0 ∷ 0 ∷ 0 ∷ [])
    ∷ (0 ∷ 0 ∷ 0 ∷ 1 ∷ 1 ∷ 0 ∷ 0 ∷ 0 ∷ 0 ∷ 0 ∷ [])
    ∷ (0 ∷ 1 ∷ 1 ∷ 1 ∷ 0 ∷ 0 ∷ 0 ∷ 0 ∷ 0 ∷ 0 ∷ [])
    ∷ (0 ∷ 0 ∷ 0 ∷ 0 ∷ 0 ∷ 0 ∷ 0 ∷ 0 ∷ 0 ∷ 0 ∷ [])
    ∷ (0 ∷ 0 ∷ 0 ∷ 0 ∷ 0 ∷ 0 ∷ 0 ∷ 0 ∷ 0 ∷ 0 ∷ [])
    ∷ (0 ∷ 0 ∷ 0 ∷ 0 ∷ 0 ∷ 0 ∷ 0 ∷ 0 ∷ 0 ∷ 0 ∷ [])
    ∷ []

abbrev pub MayStandUnder : (below above : ℕ) → Type 0
MayStandUnder below above = get_or (get_or marks below []) above 0 ≡ 1

-- The same in document 01's list, for the families 0 to 9: "1 vehicle: as root only", "2 run: under 1", "3 stop: under 2",
-- "4 handling: under 3 or 4", "5 equipment: under 3 or 4", "6 remark: under 1, 2 or 3", "0, 7, 8, 9: nowhere". `marks_exactly` ties the two.
unfoldable pub families_above : List (List ℕ)
families_above = [] ∷ [] ∷ (1 ∷ []) ∷ (2 ∷ []) ∷ (3 ∷ 4 ∷ []) ∷ (3 ∷ 4 ∷ []) ∷ (1 ∷ 2 ∷ 3 ∷ []) ∷ [] ∷ [] ∷ [] ∷ []

abbrev pub Under : (below above : ℕ) → Type 0
Under below above = (i : ℕ) × (i < length (get_or families_above below [])) × (get_or (get_or families_above below []) i 0 ≡ above)

-- A tree of a fleet: "each of 1 to 256 nodes", "every root is of family 1".
pub record IsVehicle (tree : List ℕ) : Type 0 where
  pub is_tree : IsTree tree
  pub nodes : length tree ≤ most_nodes_of_a_tree
  pub depths : (i : ℕ) → i < length tree → depthAt tree i ≤ most_depth
  pub root_family : family (label_at tree 0) ≡ 1
  pub families : (i j : ℕ) → IsParent tree i j → MayStandUnder (family (label_at tree j)) (family (label_at tree i))

-- "A fleet is 1 to 64 trees end to end, each of 1 to 256 nodes, 4,096 in all." "A fleet is accepted if it keeps the rules."
pub record IsFleet (pairs : List ℕ) : Type 0 where
  pub some_tree : 1 ≤ length (vehicles pairs)
  pub trees : length (vehicles pairs) ≤ most_trees
  pub nodes : length pairs ≤ most_nodes
  pub each : (n : ℕ) → n < length (vehicles pairs) → IsVehicle (get_or (vehicles pairs) n [])
