-- What `write` answers and leaves in the output.
use Rattle.std.specs.Prelude.{List, [], ◌∷◌, ℕ, length}
use Rattle.terms.specs.Refusal.{Rule, refusal, output_after}
use Rattle.fleet.specs.declared.Answer.{Answer}
use Rattle.fleet.specs.Answering.{answer}
use Rattle.fleet.specs.Rules.{fleet_rule, output_rule}
use Rattle.writing.specs.Writing.{writing}

-- `write`: 10, then 17, "output shorter than the .. bytes written".
abbrev pub write_rules : (pairs output : List ℕ) → List Rule
write_rules pairs output = fleet_rule pairs ∷ output_rule (length (writing pairs)) output ∷ []

unfoldable pub write_answer : (pairs output : List ℕ) → Answer
write_answer pairs output = answer (refusal (write_rules pairs output)) (length (writing pairs))

unfoldable pub write_output : (pairs output : List ℕ) → List ℕ
write_output pairs output = output_after (refusal (write_rules pairs output)) (writing pairs) output
