-- Document 01, "Occurrence" and "When the desk says no": what a call for a placing answers and leaves in the output.
use Rattle.std.specs.Prelude.{List, [], ◌∷◌, ◌++◌, ℕ, zero, suc, length, drop}
use Rattle.terms.specs.Refusal.{Rule, refusal}
use Rattle.terms.specs.LeftOut.{ShownWithout, placed, nowhere}
use Rattle.terms.proofs.RemarkLaws.{shown_without_remarks}
use Rattle.fleet.specs.Rules.{fleet_rule, vehicle_rule, output_rule}
use Rattle.vehicles.specs.Vehicle.{tree_numbered}
use Rattle.tree.specs.Rules.{size_rule, tree_rule}
use Rattle.matching.specs.Limits.{most_nodes_of_a_pattern}
use Rattle.occurrence.specs.declared.Placement.{Placement}
use Rattle.occurrence.specs.declared.Placement.TheVariants.{Placed, Nowhere, Refused}

-- The rules of the call: 10, 13, 14, 16, 17. The output must have room for the pattern, "occurring or not".
abbrev pub place_rules : (fleet : List ℕ) (vehicle : ℕ) (pattern output : List ℕ) → List Rule
place_rules fleet vehicle pattern output =
    fleet_rule fleet ∷ size_rule pattern most_nodes_of_a_pattern ∷ tree_rule pattern ∷ vehicle_rule fleet vehicle ∷ output_rule (length pattern) output ∷ []

-- By the refusal number (0: none) and what is to be shown: `placed` with the heaviest placing at nodes that count, or `nowhere` with the fact that
-- the pattern does not occur there. "If there is none, the reply is no, and the output is untouched."
unfoldable pub placement : {Out : ℕ → Type 0} {pattern tree : List ℕ} (refusal : ℕ) → ShownWithout Out pattern tree → Placement
placement zero (placed tuple _) = Placed (length tuple)
placement zero (nowhere _) = Nowhere
placement (suc number) _ = Refused (suc number)

unfoldable pub placement_output : {Out : ℕ → Type 0} {pattern tree : List ℕ} (refusal : ℕ) → ShownWithout Out pattern tree → List ℕ → List ℕ
placement_output zero (placed tuple _) output = tuple ++ drop (length tuple) output
placement_output zero (nowhere _) output = output
placement_output (suc _) _ output = output

-- Remarks are left out; node numbers go on counting them. (`shown_without_remarks pattern tree : ShownWithout (Remark tree) pattern tree`: its type
-- says all that is needed of it.)
unfoldable pub place_answer : (fleet : List ℕ) (vehicle : ℕ) (pattern output : List ℕ) → Placement
place_answer fleet vehicle pattern output = placement (refusal (place_rules fleet vehicle pattern output)) (shown_without_remarks pattern (tree_numbered fleet vehicle))

unfoldable pub place_output : (fleet : List ℕ) (vehicle : ℕ) (pattern output : List ℕ) → List ℕ
place_output fleet vehicle pattern output = placement_output (refusal (place_rules fleet vehicle pattern output)) (shown_without_remarks pattern (tree_numbered fleet vehicle)) output
