-- A fleet as text: a line for each vehicle's tree, its pairs as in the list; and what `print` answers and leaves in the output.
use Rattle.std.specs.Prelude.{Bool, true, false, List, [], ◌∷◌, ◌++◌, ℕ, zero, suc, ◌*◌, ◌/◌, length}
use Rattle.terms.specs.Fleet.{most_nodes}
use Rattle.terms.specs.Refusal.{Rule, refusal, output_after}
use Rattle.fleet.specs.Answering.{answer}
use Rattle.fleet.specs.Rules.{fleet_rule, output_rule}
use Rattle.fleet.specs.declared.Answer.{Answer}
use Rattle.text.specs.Text.{pair_text, blank, line_end}

-- What stands before a pair of this depth that is not the first of the fleet.
unfoldable pub parting : (depth : ℕ) → ℕ
parting zero = line_end
parting (suc _) = blank

-- A pair with what parts it from the one before.
unfoldable pub fleet_piece : (first : Bool) → ℕ → List ℕ
fleet_piece true x = pair_text x
fleet_piece false x = parting (x / 1000) ∷ pair_text x

unfoldable pub fleet_pieces : (first : Bool) → List ℕ → List ℕ
fleet_pieces first [] = []
fleet_pieces first (x ∷ pairs) = fleet_piece first x ++ fleet_pieces false pairs

-- The text of a fleet: its pieces, and a line end.
unfoldable pub fleet_text : List ℕ → List ℕ
fleet_text pairs = fleet_pieces true pairs ++ line_end ∷ []

-- The most bytes of it: of each pair at most six, and what parts it from the next (`text_short_claim`).
abbrev pub most_fleet_text_bytes : ℕ
most_fleet_text_bytes = 7 * most_nodes

-- Whether a pair with so many before it is the first.
unfoldable pub is_first : (before : ℕ) → Bool
is_first zero = true
is_first (suc _) = false

-- `print`: 10, then 17, as `write`.
abbrev pub print_rules : (pairs output : List ℕ) → List Rule
print_rules pairs output = fleet_rule pairs ∷ output_rule (length (fleet_text pairs)) output ∷ []

unfoldable pub print_answer : (pairs output : List ℕ) → Answer
print_answer pairs output = answer (refusal (print_rules pairs output)) (length (fleet_text pairs))

unfoldable pub print_output : (pairs output : List ℕ) → List ℕ
print_output pairs output = output_after (refusal (print_rules pairs output)) (fleet_text pairs) output
