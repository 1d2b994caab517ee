-- Document 01, "Occurrence" and "When the desk says no": what a call for a support answers.
use Rattle.std.specs.Prelude.{List, [], ◌∷◌, ℕ}
use Rattle.terms.specs.Refusal.{Rule, refusal}
use Rattle.fleet.specs.declared.Answer.{Answer}
use Rattle.fleet.specs.Answering.{answer}
use Rattle.fleet.specs.Rules.{fleet_rule}
use Rattle.tree.specs.Rules.{size_rule, tree_rule}
use Rattle.matching.specs.Limits.{most_nodes_of_a_pattern}
use Rattle.occurrence.specs.Support.{support}

-- The rules of the call: 10, 13, 14.
abbrev pub support_rules : (fleet pattern : List ℕ) → List Rule
support_rules fleet pattern = fleet_rule fleet ∷ size_rule pattern most_nodes_of_a_pattern ∷ tree_rule pattern ∷ []

unfoldable pub support_answer : (fleet pattern : List ℕ) → Answer
support_answer fleet pattern = answer (refusal (support_rules fleet pattern)) (support fleet pattern)
