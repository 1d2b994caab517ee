-- The claims of specs/Claims, proved.
use mathlib.Core.Path.{◌≡◌, refl}
use mathlib.Core.List.{List}
use Prim.Native.Nat.{ℕ, zero, suc}
use native.Mathlib.Omega.{arith}
use lib.ListN.{length, take}
use Rattle.terms.specs.Tree.{IsTree}
use Rattle.terms.specs.Matching.{SameTree}
use Rattle.terms.specs.Refusal.{refusal, output_after, AllKept, also, Numbered, no_rule, and_rule}
use Rattle.terms.proofs.MatchingLaws.{same_length, same_symmetric, same_transitive}
use Rattle.terms.proofs.FormLaws.{form_unique, form_in_form, form_of_same}
use Rattle.terms.proofs.LeftHeavyLaws.{left_heavy_exactly}
use Rattle.terms.proofs.BeginningLaws.{beginning_tree, beginning_in_form}
use Rattle.terms.proofs.RefusalLaws.{refused_exactly, answered_exactly}
use Rattle.form.specs.FormCall.{form_of, form_rules, form_answer, form_output}
use Rattle.form.specs.Claims.{FormClaim, FormExactly, OwnFormExactly, OwnFormLeftHeavy, FormAgain, SameFormExactly, BeginningClaim, FormRefusedExactly, FormAnsweredExactly, FormWritten, FormUntouched}
use Rattle.form.proofs.FormSteps.{form_of_is}
use Rattle.fleet.proofs.AnswerLaws.{done_exactly, refused_number}

pub form_claim : FormClaim
form_claim = form_of_is

pub form_exactly : FormExactly
form_exactly s f t = ((λ e. rw e at (form_of_is s t)), (λ h. form_unique (form_of_is s t) h))

pub own_form_exactly : OwnFormExactly
own_form_exactly s t = ((λ e. rw e at (form_in_form t (form_of_is s t))), (λ f. form_unique (form_of_is s t) f))

pub own_form_left_heavy : OwnFormLeftHeavy
own_form_left_heavy s t =
    let own = own_form_exactly s t in
    let heavy = left_heavy_exactly s t in
    ((λ e. heavy.0 (own.0 e)), (λ h. own.1 (heavy.1 h)))

pub form_again : FormAgain
form_again s t = let f = form_of_is s t in (own_form_exactly (form_of s) f.is_tree).1 (form_in_form t f)

pub same_form_exactly : SameFormExactly
same_form_exactly s t ts tt = (to, from)
  where
    to : form_of s ≡ form_of t → SameTree s t
    to e =
        let f = form_of_is t tt in
        let a : SameTree s (form_of t) = rw e at (form_of_is s ts).same in
        same_transitive ts a (same_symmetric tt f.is_tree f.same)

    from : SameTree s t → form_of s ≡ form_of t
    from e = form_unique (form_of_is s ts) (form_of_same ts tt e (form_of_is t tt))

pub beginning_claim : BeginningClaim
beginning_claim s n h f = (own_form_exactly (take (suc n) s) (beginning_tree s n h f.is_tree)).1 (beginning_in_form s n h f)

pub form_numbered : (tree output : List ℕ) → Numbered (form_rules tree output)
form_numbered tree output = and_rule 12 refl (and_rule 13 refl (and_rule 16 refl no_rule))

pub form_refused_exactly : FormRefusedExactly
unfolding form_answer
form_refused_exactly tree output n h =
    let number = refused_number (refusal (form_rules tree output)) (length tree) n h in
    let first = refused_exactly n (form_numbered tree output) h in
    ((λ e. first.0 (number.0 e)), (λ b. number.1 (first.1 b)))

pub form_answered_exactly : FormAnsweredExactly
unfolding form_answer
form_answered_exactly tree output =
    let done = done_exactly (refusal (form_rules tree output)) (length tree) in
    let kept = answered_exactly (form_numbered tree output) in
    ((λ e. kept.0 (done.0 e)), (λ a. done.1 (kept.1 a)))

pub form_written : FormWritten
unfolding form_output output_after
form_written tree output a =
    let e : refusal (form_rules tree output) ≡ 0 = (answered_exactly (form_numbered tree output)).1 a in
    let z : length tree ≡ length (form_of tree) = same_length (form_of_is tree (is_tree a)).same in
    rw (e, z)
  where
    is_tree : AllKept (form_rules tree output) → IsTree tree
    is_tree (also _ (also t _)) = t

pub form_untouched : FormUntouched
unfolding form_output output_after
form_untouched tree output zero h b = absurd (omega arith)
form_untouched tree output (suc n) h b = let e : refusal (form_rules tree output) ≡ suc n = (refused_exactly (suc n) (form_numbered tree output) h).1 b in rw e
