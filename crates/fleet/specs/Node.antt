-- Document 01, "When the desk says no": what the rules 5, 6, 7 and 9 ask of a node behind those before it, be it read from a sheet, from a
-- text or from lent pairs. In all of this, `before` is the pairs of the nodes read so far.
use Rattle.std.specs.Prelude.{◌≡◌, List, [], ◌∷◌, ◌++◌, ℕ, suc, ◌-◌, ◌≤◌, ◌<◌, length}
use Rattle.terms.specs.Tree.{pair, depthAt, label_at, IsParent}
use Rattle.terms.specs.Fleet.{vehicles, family, MayStandUnder, most_trees, most_nodes_of_a_tree, most_nodes, most_depth}

-- "the previous node's"
abbrev pub last_depth : List ℕ → ℕ
last_depth before = depthAt before (length before - 1)

abbrev pub last_label : List ℕ → ℕ
last_label before = label_at before (length before - 1)

-- The tree that the last node stands in.
unfoldable pub last_of : List (List ℕ) → List ℕ
last_of [] = []
last_of (tree ∷ []) = tree
last_of (tree ∷ next ∷ trees) = last_of (next ∷ trees)

abbrev pub last_tree : List ℕ → List ℕ
last_tree before = last_of (vehicles before)

-- 5: "first depth not 0, later depth above previous + 1, or above 15"
abbrev pub DepthAllowed : List ℕ → ℕ → Type 0
DepthAllowed before depth = (length before ≡ 0 → depth ≡ 0) × ((1 ≤ length before → depth ≤ suc (last_depth before)) × (depth ≤ most_depth))

-- 6: "label not 1 to 999"
abbrev pub LabelAllowed : ℕ → Type 0
LabelAllowed label = (1 ≤ label) × (label ≤ 999)

-- 7: "family not allowed there": a root is of family 1, any other may stand under its parent in its tree
abbrev pub FamilyAllowed : List ℕ → ℕ → ℕ → Type 0
FamilyAllowed before depth label = (depth ≡ 0 → family label ≡ 1)
    × ((i : ℕ) → IsParent (last_tree before ++ pair depth label ∷ []) i (length (last_tree before)) → MayStandUnder (family label) (family (label_at (last_tree before) i)))

-- 9: "tree 65, node 257 of a tree, or node 4,097"
abbrev pub WithinLimits : List ℕ → ℕ → Type 0
WithinLimits before depth = (depth ≡ 0 → length (vehicles before) < most_trees) × ((1 ≤ depth → length (last_tree before) < most_nodes_of_a_tree) × (length before < most_nodes))
