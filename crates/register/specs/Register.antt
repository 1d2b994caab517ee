-- Document 02, "a label register beside the fleet": "Keep, for each label 1 to 999, the number of its nodes in the fleet and the set of vehicles that
-- hold it, zero and empty where none does."
use Rattle.std.specs.Prelude.{◌≡◌, ℕ, zero, suc, ◌+◌, ◌*◌, ◌%◌, ◌≤◌, length, take}
use mathlib.Core.List.{List, [], ◌∷◌, List-discrete}
use Rattle.std.proofs.Math.Decide.{dec_le, ℕ_discrete}
use Rattle.terms.specs.Fleet.{vehicles}
use Rattle.terms.specs.Refusal.{Rule}
use Rattle.terms.proofs.Decide.{choose, both?, map?}

-- "label (1 to 999)": the register has an entry for each.
abbrev pub most_label : ℕ
most_label = 999

-- "the number of its nodes": how many of these pairs have the label.
unfoldable pub label_nodes : (label : ℕ) (pairs : List ℕ) → ℕ
unfolding ℕ_discrete
label_nodes label [] = 0
label_nodes label (x ∷ pairs) = choose (ℕ_discrete (x % 1000) label) 1 0 + label_nodes label pairs

-- "the set of vehicles that hold it", those with a node of the label: of the trees in their order the first is in the lowest bit.
unfoldable pub label_holders : (label : ℕ) (trees : List (List ℕ)) → ℕ
unfolding label_nodes dec_le
label_holders label [] = 0
label_holders label (tree ∷ trees) = choose (dec_le 1 (label_nodes label tree)) 1 0 + 2 * label_holders label trees

-- "Entries rise by label": those of so many labels, from one on.
unfoldable pub entries : (entry : ℕ → ℕ) (count label : ℕ) → List ℕ
entries entry zero label = []
entries entry (suc count) label = entry label ∷ entries entry count (suc label)

abbrev pub register_nodes : (fleet : List ℕ) → List ℕ
register_nodes fleet = entries (λ label. label_nodes label fleet) most_label 1

abbrev pub register_holders : (fleet : List ℕ) → List ℕ
register_holders fleet = entries (λ label. label_holders label (vehicles fleet)) most_label 1

-- A lent register is this fleet's: its first 999 entries are; what follows them is not looked at. One of fewer is not.
pub record IsRegister (fleet nodes holders : List ℕ) : Type 0 where
  pub nodes_are : take most_label nodes ≡ register_nodes fleet
  pub holders_are : take most_label holders ≡ register_holders fleet

unfoldable pub register? : (fleet nodes holders : List ℕ) → Dec (IsRegister fleet nodes holders)
unfolding both? map?
register? fleet nodes holders = map? (λ k. record { nodes_are = k.0; holders_are = k.1 }) (λ r. (r.nodes_are, r.holders_are))
    (both? (List-discrete ℕ_discrete (take most_label nodes) (register_nodes fleet)) (List-discrete ℕ_discrete (take most_label holders) (register_holders fleet)))

-- The sets of the fleet's register, or none: what a search may be lent beside the fleet.
abbrev pub HoldersIfLent : (fleet holders : List ℕ) → Type 0
HoldersIfLent fleet holders = 1 ≤ length holders → take most_label holders ≡ register_holders fleet

-- 10: "a register that is not this fleet's"
abbrev pub register_rule : (fleet nodes holders : List ℕ) → Rule
register_rule fleet nodes holders = record { number = 10; Kept = IsRegister fleet nodes holders; decide = register? fleet nodes holders }
