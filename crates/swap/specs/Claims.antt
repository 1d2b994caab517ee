-- The claims about swaps. `NewVehicles` is proved as `new_vehicles`, and so on: Claims of proofs/.
use Rattle.std.specs.Prelude.{◌≡◌, List, ◌↔◌, ◌⊎◌, ℕ, ◌-◌, ◌≤◌, ◌<◌, length, get_or, take, drop}
use Rattle.terms.specs.Fleet.{IsFleet, vehicles, most_nodes}
use Rattle.terms.specs.Refusal.{FirstBroken, AllKept}
use Rattle.fleet.specs.declared.Answer.TheVariants.{Done, Refused}
use Rattle.vehicles.specs.Vehicle.{tree_numbered}
use Rattle.register.specs.Register.{most_label, label_nodes, IsRegister}
use Rattle.swap.specs.Swap.{Swap, RightlyLent, fleet_of, replaced, new_fleet, swap_rules, swap_answer, buffer_after, nodes_after, holders_after}

-- The pairs of the new fleet, as an answered swap leaves them in the buffer.
abbrev pub fleet_after : Swap → ℕ → List ℕ
fleet_after s pairs = take pairs (buffer_after s)

-- An answered swap leaves a fleet in the buffer, whose vehicles are the old ones with that one replaced.
abbrev pub NewVehicles : Type 0
NewVehicles = (s : Swap) (pairs : ℕ) → swap_answer s ≡ Done pairs
    → IsFleet (fleet_after s pairs) × (vehicles (fleet_after s pairs) ≡ replaced (vehicles (fleet_of s)) s.vehicle s.tree)

-- "it then equals the one made afresh from the new fleet"
abbrev pub RegisterAfresh : Type 0
RegisterAfresh = (s : Swap) (pairs : ℕ) → swap_answer s ≡ Done pairs → IsRegister (fleet_after s pairs) (nodes_after s) (holders_after s)

-- "entries of labels in neither tree are untouched"
abbrev pub EntryUntouched : Type 0
EntryUntouched = (s : Swap) (pairs label : ℕ) → swap_answer s ≡ Done pairs → 1 ≤ label → label ≤ most_label
    → label_nodes label (tree_numbered (fleet_of s) s.vehicle) ≡ 0 → label_nodes label s.tree ≡ 0
    → (get_or (nodes_after s) (label - 1) 0 ≡ get_or s.nodes (label - 1) 0) × (get_or (holders_after s) (label - 1) 0 ≡ get_or s.holders (label - 1) 0)

-- Nothing past the new fleet and past the register's entries is written.
abbrev pub BehindUntouched : Type 0
BehindUntouched = (s : Swap) (pairs : ℕ) → swap_answer s ≡ Done pairs
    → (drop pairs (buffer_after s) ≡ drop pairs s.buffer) × (drop most_label (nodes_after s) ≡ drop most_label s.nodes) × (drop most_label (holders_after s) ≡ drop most_label s.holders)

-- "fleet and register then stay"
abbrev pub RefusedUntouched : Type 0
RefusedUntouched = (s : Swap) (n : ℕ) → swap_answer s ≡ Refused n → (buffer_after s ≡ s.buffer) × (nodes_after s ≡ s.nodes) × (holders_after s ≡ s.holders)

-- DEMAND 1: refused by the first broken rule, and answered exactly if none is broken.
abbrev pub SwapRefusedExactly : Type 1
SwapRefusedExactly = (s : Swap) (n : ℕ) → 1 ≤ n → (swap_answer s ≡ Refused n) ↔ FirstBroken n (swap_rules s)

abbrev pub SwapAnsweredExactly : Type 1
SwapAnsweredExactly = (s : Swap) → (swap_answer s ≡ Done (length (new_fleet s))) ↔ AllKept (swap_rules s)

-- `RightlyLent`, of what the swap is given.
abbrev pub RightlyLentTo : Swap → Type 0
RightlyLentTo s = RightlyLent s.buffer s.used s.tree s.nodes s.holders

-- A vehicle of the fleet is named.
abbrev pub Named : Swap → Type 0
Named s = (1 ≤ s.vehicle) × (s.vehicle ≤ length (vehicles (fleet_of s)))

-- The same number by number, the two places of 10 told apart: before 16, and after it.
abbrev pub Refused10Exactly : Type 0
Refused10Exactly = (s : Swap) → (swap_answer s ≡ Refused 10) ↔ ((¬ RightlyLentTo s) ⊎ (RightlyLentTo s × Named s × (most_nodes < length (new_fleet s))))

abbrev pub Refused16Exactly : Type 0
Refused16Exactly = (s : Swap) → (swap_answer s ≡ Refused 16) ↔ (RightlyLentTo s × (¬ Named s))

abbrev pub Refused17Exactly : Type 0
Refused17Exactly = (s : Swap) → (swap_answer s ≡ Refused 17) ↔ (RightlyLentTo s × Named s × (length (new_fleet s) ≤ most_nodes) × (length s.buffer < length (new_fleet s)))
