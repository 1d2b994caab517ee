-- Document 01, "The list" and "When the desk says no": what a start and a step answer and leave in the output, whatever they are given.
use Rattle.std.specs.Prelude.{List, [], ◌∷◌, ◌++◌, ℕ, zero, suc, ◌≤◌, length, drop}
use Rattle.std.proofs.Math.Option.{Option, none, some}
use Rattle.std.proofs.Math.Decide.{dec_le}
use Rattle.terms.specs.Form.{InForm}
use Rattle.terms.specs.Lightest.{Lightest}
use Rattle.terms.specs.Refusal.{Rule, refusal}
use Rattle.terms.proofs.Decide.{within?}
use Rattle.terms.proofs.LeftHeavyLaws.{in_form?}
use Rattle.fleet.specs.Rules.{fleet_rule, output_rule}
use Rattle.tree.specs.Rules.{size_rule, tree_rule}
use Rattle.matching.specs.Limits.{most_nodes_of_a_pattern}
use Rattle.register.specs.Register.{IsRegister, register_rule}
use Rattle.supertrees.specs.Profile.{maximal}
use Rattle.search.specs.declared.Request.{Request}
use Rattle.search.specs.Counted.{Counted, Entry, heavier_than}
use Rattle.search.specs.Finite.{Finite, heavier_finite, lightest_of, lightest_is}
use Rattle.listing.specs.declared.Reply.{Reply}
use Rattle.listing.specs.declared.Reply.TheVariants.{Form, End, Refused}
use Rattle.listing.specs.Listing.{LentRegister, no_register, a_register, Asked, bare, listed_forms}
use Rattle.listing.specs.ListedSelected.{listed_finite}

pub data Call : Type 0 where
  start : (asked : Asked) (output : List ℕ) → Call
  step : (asked : Asked) (pattern output : List ℕ) → Call

abbrev pub most_threshold : ℕ
most_threshold = 64

-- 11: "threshold not 1 to 64"
abbrev pub threshold_rule : ℕ → Rule
threshold_rule threshold = record { number = 11; Kept = (1 ≤ threshold) × (threshold ≤ most_threshold); decide = within? 1 threshold most_threshold }

-- 12: "size bound not 1 to 16"
abbrev pub bound_rule : ℕ → Rule
bound_rule bound = record { number = 12; Kept = (1 ≤ bound) × (bound ≤ most_nodes_of_a_pattern); decide = within? 1 bound most_nodes_of_a_pattern }

-- 15: "pattern given to a listing step not in its form"
abbrev pub form_rule : List ℕ → Rule
form_rule pattern = record { number = 15; Kept = InForm pattern; decide = in_form? pattern }

-- 19: "profile other than 0 full, 1 closed, 2 maximal" (document 02)
abbrev pub profile_rule : ℕ → Rule
profile_rule profile = record { number = 19; Kept = profile ≤ maximal; decide = dec_le profile maximal }

-- The rules of a request: 11, 12; "19, right after 12".
abbrev pub request_rules : Request → List Rule
request_rules request = threshold_rule request.threshold ∷ bound_rule request.bound ∷ profile_rule request.profile ∷ []

-- The rule of a lent register: 10.
abbrev pub lent_rules : LentRegister → (fleet : List ℕ) → List Rule
lent_rules no_register fleet = []
lent_rules (a_register nodes holders) fleet = register_rule fleet nodes holders ∷ []

-- The rules of all that is asked, before those of the call: 10, of the fleet and of the register; 11, 12, 19.
abbrev pub asked_rules : Asked → List Rule
asked_rules asked = fleet_rule asked.fleet ∷ lent_rules asked.register asked.fleet ++ request_rules asked.request

-- A lent register is this fleet's.
abbrev pub OfThisFleet : LentRegister → (fleet : List ℕ) → Type 0
OfThisFleet no_register fleet = Unit {0}
OfThisFleet (a_register nodes holders) fleet = IsRegister fleet nodes holders

abbrev pub RegisterRight : Asked → Type 0
RegisterRight asked = OfThisFleet asked.register asked.fleet

-- The rules of a step's pattern: 13, 14, 15.
abbrev pub pattern_rules : (pattern : List ℕ) (bound : ℕ) → List Rule
pattern_rules pattern bound = size_rule pattern bound ∷ tree_rule pattern ∷ form_rule pattern ∷ []

-- "a call checks those that concern it": a start 10, 11, 12, 19, 17; a step 10, 11, 12, 19, 13, 14, 15, 17. 17 is about the size bound.
unfoldable pub rules : Call → List Rule
rules (start asked output) = asked_rules asked ++ output_rule asked.request.bound output ∷ []
rules (step asked pattern output) = asked_rules asked ++ (pattern_rules pattern asked.request.bound ++ output_rule asked.request.bound output ∷ [])

-- The forms of which a call gives the lightest. "The start gives the lightest listed form, or end." "A step .. gives the lightest listed form heavier than" its pattern, "or end."
unfoldable pub eligible : Call → Counted
eligible (start asked output) = listed_forms asked
eligible (step asked pattern output) = heavier_than (listed_forms asked) pattern

abbrev pub Eligible : Call → List ℕ → Type 0
Eligible call form = (eligible call).Holds form

unfoldable pub eligible_finite : (call : Call) → Finite (eligible call)
unfolding eligible
eligible_finite (start asked output) = listed_finite asked
eligible_finite (step asked pattern output) = heavier_finite (listed_finite asked) pattern

-- The lightest of these forms, or none: the one answer with `Lightest (Eligible call)`, as `found_is` says.
unfoldable pub found : Call → Option (List ℕ)
found call = lightest_of (eligible_finite call)

pub found_is : (call : Call) → Lightest (Eligible call) (found call)
unfolding found
found_is call = lightest_is (eligible_finite call)

unfoldable pub asked_of : Call → Asked
asked_of (start asked output) = asked
asked_of (step asked pattern output) = asked

-- The same call without a register.
unfoldable pub bare_call : Call → Call
bare_call (start asked output) = start (bare asked) output
bare_call (step asked pattern output) = step (bare asked) pattern output

unfoldable pub output_of : Call → List ℕ
output_of (start asked output) = output
output_of (step asked pattern output) = output

-- What a call returns, and the whole output afterwards.
pub record Outcome : Type 0 where
  pub reply : Reply
  pub output : List ℕ

abbrev pub outcome : Reply → List ℕ → Outcome
outcome reply output = record { reply = reply; output = output }

-- From the number of the refusal (0: none), what is found, its count and the output before. "The reply is the form's length and support";
-- "the output gets the form, and at end it is untouched"; "nothing past the length of the result is written"; refused: "left as it was: every output".
unfoldable pub respond : (refusal : ℕ) (found : Option (List ℕ)) (count : List ℕ → ℕ) (output : List ℕ) → Outcome
respond zero (some form) count output = outcome (Form (length form) (count form)) (form ++ drop (length form) output)
respond zero none count output = outcome End output
respond (suc number) found count output = outcome (Refused (suc number)) output

-- What each call answers.
unfoldable pub answerTo : Call → Outcome
answerTo call = respond (refusal (rules call)) (found call) (eligible call).count (output_of call)

-- What is handed out for what was found: the form in front of the output, and the reply.
unfoldable pub handed : Option Entry → (output : List ℕ) → Outcome
handed (some entry) output = outcome (Form (length entry.form) entry.held) (entry.form ++ drop (length entry.form) output)
handed none output = outcome End output
