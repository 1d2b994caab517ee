-- THE CLAIMS of the vehicles, over the definitions that the contracts cite.
use mathlib.Core.Path.{refl}
use mathlib.Core.List.{List}
use Prim.Native.Nat.{ℕ}
use lib.ListN.{length}
use Rattle.terms.specs.Refusal.{refusal, Numbered, no_rule, and_rule}
use Rattle.terms.proofs.RefusalLaws.{refused_exactly, answered_exactly}
use Rattle.vehicles.specs.Vehicle.{tree_numbered, vehicle_rules, vehicle_answer}
use Rattle.fleet.proofs.AnswerLaws.{done_exactly, refused_number}
use Rattle.vehicles.specs.Claims.{VehicleRefusedExactly, VehicleAnsweredExactly}

-- The naming of a vehicle is refused by the first broken rule, and answered exactly if none is broken.
vehicle_numbered : (fleet : List ℕ) (number : ℕ) → Numbered (vehicle_rules fleet number)
vehicle_numbered fleet number = and_rule 9 refl (and_rule 15 refl no_rule)

pub vehicle_refused_exactly : VehicleRefusedExactly
unfolding vehicle_answer
vehicle_refused_exactly fleet number n h =
    let refused = refused_number (refusal (vehicle_rules fleet number)) (length (tree_numbered fleet number)) n h in
    let first = refused_exactly n (vehicle_numbered fleet number) h in
    ((λ e. first.0 (refused.0 e)), (λ b. refused.1 (first.1 b)))

pub vehicle_answered_exactly : VehicleAnsweredExactly
unfolding vehicle_answer
vehicle_answered_exactly fleet number =
    let done = done_exactly (refusal (vehicle_rules fleet number)) (length (tree_numbered fleet number)) in
    let kept = answered_exactly (vehicle_numbered fleet number) in
    ((λ e. kept.0 (done.0 e)), (λ a. done.1 (kept.1 a)))
