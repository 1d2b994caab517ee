-- Document 02, "a label register beside the fleet": "Swapping a tree for another updates the register, and it then equals the one made afresh from
-- the new fleet".
use Rattle.std.specs.Prelude.{List, [], ◌∷◌, ℕ, ◌-◌, ◌≤◌, length, take, set}
use Rattle.std.proofs.Math.Decide.{dec_le}
use Rattle.terms.specs.Fleet.{IsFleet, IsVehicle, vehicles, end_to_end, most_nodes}
use Rattle.terms.specs.Refusal.{Rule, refusal, output_after}
use Rattle.terms.proofs.FleetLaws.{vehicle?}
use Rattle.fleet.specs.declared.Answer.{Answer}
use Rattle.fleet.specs.Answering.{answer}
use Rattle.fleet.specs.Rules.{fleet_rule, vehicle_rule, output_rule}
use Rattle.register.specs.Register.{IsRegister, register_nodes, register_holders, register_rule}

-- All that a swap is given. The fleet is the first `used` pairs of the buffer.
pub record Swap : Type 0 where
  pub buffer : List ℕ
  pub used : ℕ
  pub vehicle : ℕ
  pub tree : List ℕ
  pub nodes : List ℕ
  pub holders : List ℕ

abbrev pub swap_of : (buffer : List ℕ) (used vehicle : ℕ) (tree nodes holders : List ℕ) → Swap
swap_of buffer used vehicle tree nodes holders = record { buffer = buffer; used = used; vehicle = vehicle; tree = tree; nodes = nodes; holders = holders }

abbrev pub fleet_of : Swap → List ℕ
fleet_of s = take s.used s.buffer

-- The trees with that of one vehicle, numbered from 1, replaced; and the fleet of these trees end to end.
abbrev pub replaced : (trees : List (List ℕ)) (vehicle : ℕ) (tree : List ℕ) → List (List ℕ)
replaced trees vehicle tree = set trees (vehicle - 1) tree

abbrev pub new_fleet : Swap → List ℕ
new_fleet s = end_to_end (replaced (vehicles (fleet_of s)) s.vehicle s.tree)

-- What is lent is right in itself: there is a fleet, a tree that a fleet could hold, and the fleet's register.
pub record RightlyLent (buffer : List ℕ) (used : ℕ) (tree nodes holders : List ℕ) : Type 0 where
  pub in_buffer : used ≤ length buffer
  pub is_fleet : IsFleet (take used buffer)
  pub is_vehicle : IsVehicle tree
  pub is_register : IsRegister (take used buffer) nodes holders

-- 10: the buffer has no such beginning.
abbrev pub used_rule : Swap → Rule
used_rule s = record { number = 10; Kept = s.used ≤ length s.buffer; decide = dec_le s.used (length s.buffer) }

-- 10: "A new tree that no fleet could hold"
abbrev pub new_tree_rule : Swap → Rule
new_tree_rule s = record { number = 10; Kept = IsVehicle s.tree; decide = vehicle? s.tree }

-- 10: "a swap past 4,096 nodes"
abbrev pub past_rule : Swap → Rule
past_rule s = record { number = 10; Kept = length (new_fleet s) ≤ most_nodes; decide = dec_le (length (new_fleet s)) most_nodes }

-- "A new tree that no fleet could hold, or a register that is not this fleet's, gets 10, then a wrong vehicle number 16, a swap past 4,096 nodes 10, a
-- buffer too short for the new fleet 17".
unfoldable pub swap_rules : Swap → List Rule
swap_rules s = used_rule s ∷ fleet_rule (fleet_of s) ∷ new_tree_rule s ∷ register_rule (fleet_of s) s.nodes s.holders
    ∷ vehicle_rule (fleet_of s) s.vehicle ∷ past_rule s ∷ output_rule (length (new_fleet s)) s.buffer ∷ []

-- The answer is the new number of pairs.
unfoldable pub swap_answer : Swap → Answer
swap_answer s = answer (refusal (swap_rules s)) (length (new_fleet s))

-- What the buffer and the register hold afterwards: the new fleet, and its register; "fleet and register then stay" if it is refused.
unfoldable pub buffer_after : Swap → List ℕ
buffer_after s = output_after (refusal (swap_rules s)) (new_fleet s) s.buffer

unfoldable pub nodes_after : Swap → List ℕ
nodes_after s = output_after (refusal (swap_rules s)) (register_nodes (new_fleet s)) s.nodes

unfoldable pub holders_after : Swap → List ℕ
holders_after s = output_after (refusal (swap_rules s)) (register_holders (new_fleet s)) s.holders
