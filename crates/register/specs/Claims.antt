-- The claims about the register. `RegisterRefusedExactly` is proved as `register_refused_exactly`, and so on: Claims of proofs/.
use Rattle.std.specs.Prelude.{◌≡◌, List, ◌↔◌, ℕ, ◌-◌, ◌^◌, ◌≤◌, ◌<◌, length, get_or, drop}
use Rattle.terms.specs.Tree.{label_at}
use Rattle.terms.specs.Fleet.{most_trees, IsFleet, vehicles}
use Rattle.terms.specs.Refusal.{FirstBroken, AllKept}
use Rattle.fleet.specs.declared.Answer.TheVariants.{Done, Refused}
use Rattle.vehicles.specs.Vehicle.{tree_numbered}
use Rattle.sets.specs.Sets.{IsVehicleNumber, Member}
use Rattle.register.specs.Register.{most_label, label_nodes, label_holders, register_nodes, register_holders, IsRegister}
use Rattle.register.specs.RegisterCall.{register_rules, register_answer, nodes_output, holders_output}

-- "the set of vehicles that hold it": the vehicles whose trees have a node of the label, and no others; a 64-bit number.
abbrev pub HoldersExactly : Type 0
HoldersExactly = (fleet : List ℕ) (label vehicle : ℕ) → IsVehicleNumber vehicle
    → Member vehicle (label_holders label (vehicles fleet)) ↔ ((i : ℕ) × (i < length (tree_numbered fleet vehicle)) × (label_at (tree_numbered fleet vehicle) i ≡ label))

abbrev pub HoldersSmall : Type 0
HoldersSmall = (fleet : List ℕ) (label : ℕ) → IsFleet fleet → label_holders label (vehicles fleet) < 2 ^ most_trees

-- "Entries rise by label": that of a label is the one with as many before it as there are lesser labels.
abbrev pub EntryOf : Type 0
EntryOf = (fleet : List ℕ) (label : ℕ) → 1 ≤ label → label ≤ most_label
    → (get_or (register_nodes fleet) (label - 1) 0 ≡ label_nodes label fleet) × (get_or (register_holders fleet) (label - 1) 0 ≡ label_holders label (vehicles fleet))

-- "zero and empty where none does": the one exactly if the other.
abbrev pub ZeroAndEmpty : Type 0
ZeroAndEmpty = (fleet : List ℕ) (label : ℕ) → (label_nodes label fleet ≡ 0) ↔ (label_holders label (vehicles fleet) ≡ 0)

-- DEMAND 1: refused by the first broken rule, 10 or 17, and answered exactly if none is broken.
abbrev pub RegisterRefusedExactly : Type 1
RegisterRefusedExactly = (fleet nodes holders : List ℕ) (n : ℕ) → 1 ≤ n → (register_answer fleet nodes holders ≡ Refused n) ↔ FirstBroken n (register_rules fleet nodes holders)

abbrev pub RegisterAnsweredExactly : Type 1
RegisterAnsweredExactly = (fleet nodes holders : List ℕ) → (register_answer fleet nodes holders ≡ Done most_label) ↔ AllKept (register_rules fleet nodes holders)

-- What an answered call leaves in its outputs is the fleet's register.
abbrev pub MadeIsRegister : Type 0
MadeIsRegister = (fleet nodes holders : List ℕ) (n : ℕ) → register_answer fleet nodes holders ≡ Done n
    → IsRegister fleet (nodes_output fleet nodes holders) (holders_output fleet nodes holders)

-- A refused call leaves both outputs as they were.
abbrev pub RegisterRefusedUntouched : Type 0
RegisterRefusedUntouched = (fleet nodes holders : List ℕ) (n : ℕ) → register_answer fleet nodes holders ≡ Refused n
    → (nodes_output fleet nodes holders ≡ nodes) × (holders_output fleet nodes holders ≡ holders)

-- An answered call writes nothing past the last label's entry.
abbrev pub RegisterBehindUntouched : Type 0
RegisterBehindUntouched = (fleet nodes holders : List ℕ) (n : ℕ) → register_answer fleet nodes holders ≡ Done n
    → (drop most_label (nodes_output fleet nodes holders) ≡ drop most_label nodes) × (drop most_label (holders_output fleet nodes holders) ≡ drop most_label holders)
