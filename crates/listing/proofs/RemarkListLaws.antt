-- The claims about remarks and the list: taking them out changes nothing, and none is listed.
use mathlib.Core.Path.{◌≡◌, refl, sym, ap, ◌∙◌}
use mathlib.Core.List.{List, [], ◌∷◌, ◌++◌}
use mathlib.Core.Option.{Option, none, some}
use Prim.Native.Nat.{ℕ, zero, suc}
use native.Mathlib.Omega.{arith}
use lib.ListN.{length, drop}
use Rattle.terms.specs.Fleet.{IsFleet}
use Rattle.terms.specs.Refusal.{Rule, refusal}
use Rattle.terms.specs.Remarks.{without_remarks}
use Rattle.terms.proofs.RefusalLaws.{kept_on}
use Rattle.terms.proofs.LightestLaws.{lightest_unique}
use Rattle.terms.proofs.RemarkLaws.{fleet_without_remarks}
use Rattle.fleet.specs.Rules.{fleet_rule, output_rule}
use Rattle.occurrence.specs.Support.{whole_support}
use Rattle.occurrence.proofs.SupportLaws.{support_exactly, support_without_remarks, remark_unsupported}
use Rattle.search.specs.declared.Request.{Request}
use Rattle.search.specs.Counted.{Entry}
use Rattle.listing.specs.declared.Reply.TheVariants.{Form}
use Rattle.listing.specs.Listing.{Asked, asks, Listed, listed_forms}
use Rattle.listing.specs.ListedSelected.{listed_form}
use Rattle.listing.specs.Calls.{start, step, request_rules, pattern_rules, asked_rules, rules, eligible, found, found_is, output_of, outcome, respond, answerTo}
use Rattle.listing.specs.Claims.{ProfileComparisonClaim, RemarksTakenOutClaim, StartWithoutRemarksClaim, StepWithoutRemarksClaim, DifferByRemarksClaim, NoRemarkListedClaim}
use Rattle.listing.proofs.ListLaws.{Belongs, list_other}
use Rattle.listing.proofs.StartStepLaws.{lightest_other}
use Rattle.listing.proofs.AskedLaws.{kept_parts}
use Rattle.listing.proofs.Demand3.{profile_comparison_claim, agreed_listed, agreed_same}

module _ (fleet : List ℕ) (request : Request) (f : IsFleet fleet) where
  abbrev here : Asked
  here = asks fleet request

  abbrev there : Asked
  there = asks (without_remarks fleet) request

  to : (form : List ℕ) → Listed here form → Listed there form
  to form l = agreed_listed here there refl (λ t _. sym (support_without_remarks fleet t f)) form l

  from : (form : List ℕ) → Listed there form → Listed here form
  from form l = agreed_listed there here refl (λ t _. support_without_remarks fleet t f) form l

  belongs_to : (e : Entry) → Belongs (listed_forms here) e → Belongs (listed_forms there) e
  belongs_to e b = record { holds = to e.form b.holds; counted = b.counted ∙ sym (support_without_remarks fleet e.form f) }

  belongs_from : (e : Entry) → Belongs (listed_forms there) e → Belongs (listed_forms here) e
  belongs_from e b = record { holds = from e.form b.holds; counted = b.counted ∙ support_without_remarks fleet e.form f }

  -- the rules of what is asked, and of what comes after them
  same_refusal : (later : List Rule) → refusal (asked_rules here ++ later) ≡ refusal (asked_rules there ++ later)
  same_refusal later = kept_on (fleet_rule fleet) (request_rules request ++ later) f ∙ sym (kept_on (fleet_rule (without_remarks fleet)) (request_rules request ++ later) (fleet_without_remarks fleet f).0)

  -- the same form is found, and told with the same support
  same_told : (number : ℕ) (o : Option (List ℕ)) (output : List ℕ) → respond number o (listed_forms here).count output ≡ respond number o (listed_forms there).count output
  unfolding respond
  same_told zero (some form) output = ap (λ (n : ℕ). outcome (Form (length form) n) (form ++ drop (length form) output)) (sym (support_without_remarks fleet form f))
  same_told zero none output = refl
  same_told (suc number) o output = refl

  start_same : (output : List ℕ) → answerTo (start here output) ≡ answerTo (start there output)
  unfolding answerTo rules eligible output_of
  start_same output =
      let o : found (start here output) ≡ found (start there output) = lightest_unique (lightest_other to from (found_is (start here output))) (found_is (start there output)) in
      ap (λ (n : ℕ). respond n (found (start here output)) (listed_forms here).count output) (same_refusal (output_rule request.bound output ∷ []))
      ∙ ap (λ (x : Option (List ℕ)). respond (refusal (rules (start there output))) x (listed_forms here).count output) o
      ∙ same_told (refusal (rules (start there output))) (found (start there output)) output

  step_same : (pattern output : List ℕ) → answerTo (step here pattern output) ≡ answerTo (step there pattern output)
  unfolding answerTo rules eligible output_of
  step_same pattern output =
      let o : found (step here pattern output) ≡ found (step there pattern output) = lightest_unique (lightest_other (λ u k. (to u k.0, k.1)) (λ u k. (from u k.0, k.1)) (found_is (step here pattern output))) (found_is (step there pattern output)) in
      ap (λ (n : ℕ). respond n (found (step here pattern output)) (listed_forms here).count output) (same_refusal (pattern_rules pattern request.bound ++ output_rule request.bound output ∷ []))
      ∙ ap (λ (x : Option (List ℕ)). respond (refusal (rules (step there pattern output))) x (listed_forms here).count output) o
      ∙ same_told (refusal (rules (step there pattern output))) (found (step there pattern output)) output

-- what is asked is refused or not as it was
pub asked_without_remarks : (fleet : List ℕ) (request : Request) → IsFleet fleet → refusal (asked_rules (asks fleet request)) ≡ refusal (asked_rules (asks (without_remarks fleet) request))
asked_without_remarks fleet request f =
    kept_on (fleet_rule fleet) (request_rules request) f ∙ sym (kept_on (fleet_rule (without_remarks fleet)) (request_rules request) (fleet_without_remarks fleet f).0)

pub remarks_taken_out_claim : RemarksTakenOutClaim
unfolding RemarksTakenOutClaim
remarks_taken_out_claim fleet request f = (
  (fleet_without_remarks fleet f).0,
  (λ entries. ((λ l. list_other l (belongs_to fleet request f) (belongs_from fleet request f)), (λ l. list_other l (belongs_from fleet request f) (belongs_to fleet request f)))),
)

pub start_without_remarks_claim : StartWithoutRemarksClaim
unfolding StartWithoutRemarksClaim
start_without_remarks_claim fleet request output f = start_same fleet request f output

pub step_without_remarks_claim : StepWithoutRemarksClaim
unfolding StepWithoutRemarksClaim
step_without_remarks_claim fleet request pattern output f = step_same fleet request f pattern output

pub differ_by_remarks_claim : DifferByRemarksClaim
unfolding DifferByRemarksClaim ProfileComparisonClaim
differ_by_remarks_claim asked other same r r' e entries others a b =
    (profile_comparison_claim asked other same r r' entries others a b).1
    (agreed_same asked other same (λ tree _. support_exactly asked.fleet tree (kept_parts asked r).is_fleet ∙ ap (λ (s : List ℕ). whole_support s tree) e ∙ sym (support_exactly other.fleet tree (kept_parts other r').is_fleet)))

pub no_remark_listed_claim : NoRemarkListedClaim
unfolding NoRemarkListedClaim
no_remark_listed_claim asked form h l r = omega (arith, h, (listed_form l).enough, remark_unsupported asked.fleet form r)
