-- LAWS. What a call answers, by its refusal number and by what is the lightest.
use mathlib.Core.Path.{◌≡◌, refl, sym, ap, ◌∙◌}
use mathlib.Core.List.{List}
use mathlib.Core.Option.{Option, none, some}
use Prim.Native.Nat.{ℕ, zero, suc, ◌≤◌}
use native.Mathlib.Omega.{arith}
use lib.ListN.{length, take, drop}
use lib.Seq.{take-append_seam}
use Rattle.terms.specs.Lightest.{Lightest, the_lightest, none_at_all}
use Rattle.terms.specs.Refusal.{Rule, refusal, FirstBroken, this, later, AllKept, Numbered, no_rule, and_rule}
use Rattle.terms.proofs.LightestLaws.{lightest_unique}
use Rattle.terms.proofs.RefusalLaws.{refused_exactly, all_kept_refusal, first_broken_refusal, Judged, judged, kept, broken}
use Rattle.terms.proofs.RefusalParts.{numbered_both}
use Rattle.listing.specs.declared.Reply.TheVariants.{Form, End, Refused}
use Rattle.listing.specs.Calls.{Call, start, step, rules, eligible, Eligible, found, found_is, output_of, Outcome, respond, answerTo}
use Rattle.listing.specs.Claims.{RefusedClaim, AnsweredClaim, FormGivenClaim, EndGivenClaim}
use Rattle.listing.proofs.AskedLaws.{asked_numbered}

-- every rule has a number of the table
pub call_numbered : (call : Call) → Numbered (rules call)
unfolding rules
call_numbered (start asked output) = numbered_both (asked_numbered asked) (and_rule 16 refl no_rule)
call_numbered (step asked pattern output) = numbered_both (asked_numbered asked) (and_rule 12 refl (and_rule 13 refl (and_rule 14 refl (and_rule 16 refl no_rule))))

-- what a reply tells of the response it is part of
pub record GaveForm (found : Option (List ℕ)) (count : List ℕ → ℕ) (nodes held : ℕ) (output : List ℕ) : Type 0 where
  pub form : List ℕ
  pub is : found ≡ some form
  pub shown : take nodes output ≡ form
  pub counted : held ≡ count form

pub respond_form : (number : ℕ) (o : Option (List ℕ)) (count : List ℕ → ℕ) (output : List ℕ) (nodes held : ℕ) → (respond number o count output).reply ≡ Form nodes held
    → GaveForm o count nodes held (respond number o count output).output
unfolding respond
respond_form zero (some f) count output nodes held h =
    let n : length f ≡ nodes = cc in
    let k : count f ≡ held = cc in
    record { form = f; is = refl; shown = rw (← n) (take-append_seam f (drop (length f) output)); counted = sym k }
respond_form zero none count output nodes held h = let z : ◌≡◌ {A = ℕ} 0 1 = cc in absurd (omega arith)
respond_form (suc number) o count output nodes held h = let z : ◌≡◌ {A = ℕ} 0 1 = cc in absurd (omega arith)

pub respond_end : (number : ℕ) (o : Option (List ℕ)) (count : List ℕ → ℕ) (output : List ℕ) → (respond number o count output).reply ≡ End → o ≡ none
unfolding respond
respond_end zero (some f) count output h = let z : ◌≡◌ {A = ℕ} 0 1 = cc in absurd (omega arith)
respond_end zero none count output h = refl
respond_end (suc number) o count output h = let z : ◌≡◌ {A = ℕ} 0 1 = cc in absurd (omega arith)

pub respond_refused : (r : ℕ) (o : Option (List ℕ)) (count : List ℕ → ℕ) (output : List ℕ) (number : ℕ) → (respond r o count output).reply ≡ Refused number → (r ≡ number) × (1 ≤ number)
unfolding respond
respond_refused zero (some f) count output number h = let z : ◌≡◌ {A = ℕ} 0 1 = cc in absurd (omega arith)
respond_refused zero none count output number h = let z : ◌≡◌ {A = ℕ} 0 1 = cc in absurd (omega arith)
respond_refused (suc r) o count output number h = let e : suc r ≡ number = cc in (e, omega arith)

pub answer_is : (call : Call) → respond (refusal (rules call)) (found call) (eligible call).count (output_of call) ≡ answerTo call
unfolding answerTo
answer_is call = refl

-- a call that breaks no rule gives what is found
pub answer_found : (call : Call) (o : Option (List ℕ)) → refusal (rules call) ≡ 0 → Lightest (Eligible call) o → answerTo call ≡ respond 0 o (eligible call).count (output_of call)
unfolding answerTo
answer_found call o e l =
    ap (λ (k : ℕ). respond k (found call) (eligible call).count (output_of call)) e
    ∙ ap (λ (x : Option (List ℕ)). respond 0 x (eligible call).count (output_of call)) (lightest_unique (found_is call) l)

-- a call that breaks a rule gives its number, and leaves the output
pub answer_refused : (call : Call) (number : ℕ) → refusal (rules call) ≡ suc number → answerTo call ≡ record { reply = Refused (suc number); output = output_of call }
unfolding answerTo respond
answer_refused call number e = ap (λ (k : ℕ). respond k (found call) (eligible call).count (output_of call)) e

reply_refused : (call : Call) (number : ℕ) → 1 ≤ number → refusal (rules call) ≡ number → (answerTo call).reply ≡ Refused number
reply_refused call zero h e = absurd (omega arith)
reply_refused call (suc number) h e = ap (λ (o : Outcome). o.reply) (answer_refused call number e)

refusal_of : (call : Call) (number : ℕ) → (answerTo call).reply ≡ Refused number → (refusal (rules call) ≡ number) × (1 ≤ number)
unfolding answerTo
refusal_of call number e = respond_refused (refusal (rules call)) (found call) (eligible call).count (output_of call) number e

-- the number of a broken rule is not 0
positive : {number : ℕ} {rules : List Rule} → Numbered rules → FirstBroken number rules → 1 ≤ number
positive {number = number} no_rule x3 = elim x3 [ ]
positive (and_rule n h m) (this k e) = omega arith
positive (and_rule n h m) (later k b) = positive m b

pub refused_claim : RefusedClaim
unfolding RefusedClaim
refused_claim call number = (
  (λ e. let z = refusal_of call number e in (refused_exactly number (call_numbered call) z.1).0 z.0),
  (λ b. reply_refused call number (positive (call_numbered call) b) (first_broken_refusal b)),
)

pub answered_claim : AnsweredClaim
unfolding AnsweredClaim RefusedClaim
answered_claim call = (to (judged (call_numbered call)), from)
  where
    to : Judged (rules call) → ((number : ℕ) → ¬ ((answerTo call).reply ≡ Refused number)) → AllKept (rules call)
    to (kept k) f = k
    to (broken number _ b) f = absurd (f number ((refused_claim call number).1 b))

    from : AllKept (rules call) → (number : ℕ) → ¬ ((answerTo call).reply ≡ Refused number)
    from k number e = let z = refusal_of call number e in omega (arith, z.0, z.1, all_kept_refusal k)

pub form_given_claim : FormGivenClaim
unfolding FormGivenClaim respond
form_given_claim call form k l = answer_found call (some form) (all_kept_refusal k) l

pub end_given_claim : EndGivenClaim
unfolding EndGivenClaim respond
end_given_claim call k = (to, λ f. answer_found call none (all_kept_refusal k) (none_at_all f))
  where
    to : answerTo call ≡ record { reply = End; output = output_of call } → (form : List ℕ) → ¬ Eligible call form
    to e = none_eligible (found call) (found_is call) (respond_end (refusal (rules call)) (found call) (eligible call).count (output_of call) (said e))
      where
        said : answerTo call ≡ record { reply = End; output = output_of call } → (respond (refusal (rules call)) (found call) (eligible call).count (output_of call)).reply ≡ End
        said q = ap (λ (o : Outcome). o.reply) (answer_is call ∙ q)

        none_eligible : (o : Option (List ℕ)) → Lightest (Eligible call) o → o ≡ none → (form : List ℕ) → ¬ Eligible call form
        none_eligible o (none_at_all f) q = f
        none_eligible o (the_lightest h l) q = let z : ◌≡◌ {A = ℕ} 0 1 = cc in absurd (omega arith)
