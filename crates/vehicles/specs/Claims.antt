-- The claims about the naming of a vehicle; demand 1 of the letter. `VehicleRefusedExactly` is proved as `vehicle_refused_exactly`, and so on:
-- Claims of proofs/.
use Rattle.std.specs.Prelude.{◌≡◌, List, ◌↔◌, ℕ, ◌≤◌, length}
use Rattle.terms.specs.Refusal.{FirstBroken, AllKept}
use Rattle.fleet.specs.declared.Answer.TheVariants.{Done, Refused}
use Rattle.vehicles.specs.Vehicle.{tree_numbered, vehicle_rules, vehicle_answer}

-- DEMAND 1, of `vehicle`. "a .. fleet, .. vehicle number .. that breaks a rule gets the number of that rule": 10, then 16.
abbrev pub VehicleRefusedExactly : Type 1
VehicleRefusedExactly = (fleet : List ℕ) (number n : ℕ) → 1 ≤ n → (vehicle_answer fleet number ≡ Refused n) ↔ FirstBroken n (vehicle_rules fleet number)

-- "A call that breaks no rule is not refused."
abbrev pub VehicleAnsweredExactly : Type 1
VehicleAnsweredExactly = (fleet : List ℕ) (number : ℕ) → (vehicle_answer fleet number ≡ Done (length (tree_numbered fleet number))) ↔ AllKept (vehicle_rules fleet number)
