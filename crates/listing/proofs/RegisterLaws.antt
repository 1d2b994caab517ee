-- The claims about lists with a register: the register changes nothing but what is refused.
use mathlib.Core.Path.{◌≡◌, refl}
use mathlib.Core.List.{List, [], ◌∷◌, ◌++◌}
use Prim.Native.Nat.{ℕ}
use Rattle.terms.specs.Fleet.{IsFleet}
use Rattle.terms.specs.Refusal.{refusal}
use Rattle.terms.proofs.LightestLaws.{lightest_unique}
use Rattle.fleet.specs.Rules.{output_rule}
use Rattle.search.specs.Counted.{Entry}
use Rattle.listing.specs.Listing.{Asked, bare, Listed, listed_forms}
use Rattle.listing.specs.ListedSelected.{listed_form, form_listed}
use Rattle.listing.specs.Calls.{Call, start, step, pattern_rules, RegisterRight, rules, eligible, Eligible, found, found_is, asked_of, bare_call, output_of, answerTo}
use Rattle.listing.specs.Claims.{RegisterListClaim, RightRegisterClaim, WrongRegisterClaim, ListUniqueClaim, ListingIsListClaim}
use Rattle.listing.proofs.ListLaws.{Belongs, list_other}
use Rattle.listing.proofs.CallLaws.{answer_refused}
use Rattle.listing.proofs.Demand3.{list_unique_claim, listing_is_list_claim}
use Rattle.listing.proofs.StartStepLaws.{lightest_other}
use Rattle.listing.proofs.AskedLaws.{right_skipped, wrong_refused}

-- what is listed does not depend on the register
to_bare : {asked : Asked} {form : List ℕ} → Listed asked form → Listed (bare asked) form
to_bare l = let s = listed_form l in form_listed (record { in_form = s.in_form; up_to_bound = s.up_to_bound; enough = s.enough; selects = s.selects })

from_bare : {asked : Asked} {form : List ℕ} → Listed (bare asked) form → Listed asked form
from_bare l = let s = listed_form l in form_listed (record { in_form = s.in_form; up_to_bound = s.up_to_bound; enough = s.enough; selects = s.selects })

pub register_list_claim : RegisterListClaim
unfolding RegisterListClaim ListUniqueClaim ListingIsListClaim
register_list_claim asked entries others a b =
    list_unique_claim (bare asked) entries others (list_other (listing_is_list_claim asked entries a) to from) (listing_is_list_claim (bare asked) others b)
  where
    to : (e : Entry) → Belongs (listed_forms asked) e → Belongs (listed_forms (bare asked)) e
    to e b = record { holds = to_bare b.holds; counted = b.counted }

    from : (e : Entry) → Belongs (listed_forms (bare asked)) e → Belongs (listed_forms asked) e
    from e b = record { holds = from_bare b.holds; counted = b.counted }

-- the answer of a call, part by part
eligible_bare : (call : Call) (form : List ℕ) → Eligible call form → Eligible (bare_call call) form
unfolding eligible bare_call
eligible_bare (start asked output) form l = to_bare l
eligible_bare (step asked pattern output) form l = (to_bare l.0, l.1)

bare_eligible : (call : Call) (form : List ℕ) → Eligible (bare_call call) form → Eligible call form
unfolding eligible bare_call
bare_eligible (start asked output) form l = from_bare l
bare_eligible (step asked pattern output) form l = (from_bare l.0, l.1)

found_bare : (call : Call) → found call ≡ found (bare_call call)
found_bare call = lightest_unique (lightest_other (eligible_bare call) (bare_eligible call) (found_is call)) (found_is (bare_call call))

count_bare : (call : Call) → (eligible call).count ≡ (eligible (bare_call call)).count
unfolding eligible bare_call
count_bare (start asked output) = refl
count_bare (step asked pattern output) = refl

output_bare : (call : Call) → output_of call ≡ output_of (bare_call call)
unfolding output_of bare_call
output_bare (start asked output) = refl
output_bare (step asked pattern output) = refl

refusal_bare : (call : Call) → RegisterRight (asked_of call) → refusal (rules call) ≡ refusal (rules (bare_call call))
unfolding rules asked_of bare_call
refusal_bare (start asked output) h = right_skipped asked (output_rule asked.request.bound output ∷ []) h
refusal_bare (step asked pattern output) h = right_skipped asked (pattern_rules pattern asked.request.bound ++ output_rule asked.request.bound output ∷ []) h

pub refusal_wrong : (call : Call) → ¬ (IsFleet (asked_of call).fleet × RegisterRight (asked_of call)) → refusal (rules call) ≡ 10
unfolding rules asked_of
refusal_wrong (start asked output) n = wrong_refused asked (output_rule asked.request.bound output ∷ []) n
refusal_wrong (step asked pattern output) n = wrong_refused asked (pattern_rules pattern asked.request.bound ++ output_rule asked.request.bound output ∷ []) n

pub right_register_claim : RightRegisterClaim
unfolding RightRegisterClaim answerTo
right_register_claim call h = rw (refusal_bare call h, found_bare call, count_bare call, output_bare call)

pub wrong_register_claim : WrongRegisterClaim
unfolding WrongRegisterClaim
wrong_register_claim call n = answer_refused call 9 (refusal_wrong call (λ k. n k.1))
