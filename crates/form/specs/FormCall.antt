-- Document 01, "Form and weight": what a call for the form of a tree answers and leaves in the output.
use Rattle.std.specs.Prelude.{List, [], ◌∷◌, ℕ, length}
use Rattle.terms.specs.Tree.{IsTree}
use Rattle.terms.specs.Refusal.{Rule, refusal, output_after}
use Rattle.terms.proofs.TreeLaws.{tree?}
use Rattle.terms.proofs.FormLaws.{form_exists}
use Rattle.fleet.specs.declared.Answer.{Answer}
use Rattle.fleet.specs.Answering.{answer}
use Rattle.fleet.specs.Rules.{output_rule}
use Rattle.tree.specs.Rules.{size_rule, tree_rule}

-- "256 for a tree to be formed, of any families". In code it is `form::TREE_NODES`.
abbrev pub most_nodes_formed : ℕ
most_nodes_formed = 256

-- The form of a tree: the one sequence with `IsForm` (`form_exists s : IsTree s → (f : List ℕ) × IsForm s f`, and `form_unique`).
-- Of what is no tree: nothing.
unfoldable pub form_if : (s : List ℕ) → Dec (IsTree s) → List ℕ
form_if s (yes t) = (form_exists s t).0
form_if s (no _) = []

unfoldable pub form_of : List ℕ → List ℕ
form_of s = form_if s (tree? s)

-- The rules of the call: 13, 14, 17.
abbrev pub form_rules : (tree output : List ℕ) → List Rule
form_rules tree output = size_rule tree most_nodes_formed ∷ tree_rule tree ∷ output_rule (length tree) output ∷ []

unfoldable pub form_answer : (tree output : List ℕ) → Answer
form_answer tree output = answer (refusal (form_rules tree output)) (length tree)

unfoldable pub form_output : (tree output : List ℕ) → List ℕ
form_output tree output = output_after (refusal (form_rules tree output)) (form_of tree) output
