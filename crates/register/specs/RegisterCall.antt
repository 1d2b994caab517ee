-- What the call that makes a register answers and leaves in its outputs.
use Rattle.std.specs.Prelude.{List, [], ◌∷◌, ℕ}
use Rattle.terms.specs.Refusal.{Rule, refusal, output_after}
use Rattle.fleet.specs.declared.Answer.{Answer}
use Rattle.fleet.specs.Answering.{answer}
use Rattle.fleet.specs.Rules.{fleet_rule, output_rule}
use Rattle.register.specs.Register.{most_label, register_nodes, register_holders}

-- 10, then 17: "A register output under 999 entries gets 17."
abbrev pub register_rules : (fleet nodes holders : List ℕ) → List Rule
register_rules fleet nodes holders = fleet_rule fleet ∷ output_rule most_label nodes ∷ output_rule most_label holders ∷ []

unfoldable pub register_answer : (fleet nodes holders : List ℕ) → Answer
register_answer fleet nodes holders = answer (refusal (register_rules fleet nodes holders)) most_label

-- The outputs afterwards: the numbers of nodes, and the sets.
unfoldable pub nodes_output : (fleet nodes holders : List ℕ) → List ℕ
nodes_output fleet nodes holders = output_after (refusal (register_rules fleet nodes holders)) (register_nodes fleet) nodes

unfoldable pub holders_output : (fleet nodes holders : List ℕ) → List ℕ
holders_output fleet nodes holders = output_after (refusal (register_rules fleet nodes holders)) (register_holders fleet) holders
