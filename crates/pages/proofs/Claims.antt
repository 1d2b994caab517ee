-- The claims of specs/Claims, proved.
use mathlib.Core.Path.{◌≡◌, refl, sym, ap, ◌∙◌}
use mathlib.Core.List.{List, [], ◌∷◌, ◌++◌}
use Prim.Native.Nat.{ℕ, zero, suc, ◌*◌, ◌≤◌, ◌<◌}
use native.Mathlib.Omega.{arith}
use lib.ListN.{length, take, drop}
use lib.Seq.{take_at, drop_at}
use Rattle.terms.specs.Refusal.{Rule, refusal, output_after, FirstBroken, this, later, AllKept, none, also}
use Rattle.terms.proofs.RefusalLaws.{refused_exactly, answered_exactly, broken_here}
use Rattle.terms.proofs.RefusalParts.{kept_first}
use Rattle.fleet.specs.declared.Answer.TheVariants.{Refused}
use Rattle.fleet.specs.Answering.{answer}
use Rattle.fleet.proofs.AnswerLaws.{done_exactly, done_number, refused_number}
use Rattle.listing.specs.Listing.{LentRegister, no_register, a_register, Asked}
use Rattle.listing.specs.Calls.{asked_rules}
use Rattle.listing.proofs.AskedLaws.{asked_numbered}
use Rattle.listing.proofs.StartStepLaws.{accepted}
use Rattle.paper.specs.Paper.{page_bytes}
use Rattle.pages.specs.PagesCall.{pages_of, pages_needed, pages_rule, pages_rules, pages_answer, pages_output}
use Rattle.pages.specs.Claims.{PagesRefusedClaim, PagesAnsweredClaim, Pages18Claim, PagesUntouchedClaim, PagesWrittenClaim}
use Rattle.pages.proofs.PagesCallLaws.{pages_numbered, to_pages, size}

pub pages_refused_claim : PagesRefusedClaim
unfolding PagesRefusedClaim pages_answer
pages_refused_claim asked output n h =
    let number = refused_number (refusal (pages_rules asked output)) (pages_needed asked) n h in
    let first = refused_exactly n (pages_numbered asked output) h in
    ((λ e. first.0 (number.0 e)), (λ k. number.1 (first.1 k)))

pub pages_answered_claim : PagesAnsweredClaim
unfolding PagesAnsweredClaim pages_answer
pages_answered_claim asked output =
    let done = done_exactly (refusal (pages_rules asked output)) (pages_needed asked) in
    let kept = answered_exactly (pages_numbered asked output) in
    ((λ e. kept.0 (done.0 e)), (λ k. done.1 (kept.1 k)))

-- no rule of what is asked has the number 18
not_asked : (asked : Asked) → ¬ FirstBroken 18 (asked_rules asked)
not_asked asked = go asked.register
  where
    go : (lent : LentRegister) → ¬ FirstBroken 18 (asked_rules (record { fleet = asked.fleet; request = asked.request; register = lent }))
    go no_register (later _ (later _ (later _ (later _ x25)))) = elim x25 [ ]
    go (a_register nodes holders) (later _ (later _ (later _ (later _ (later _ x32))))) = elim x32 [ ]
    go no_register (this _ e) = omega arith
    go no_register (later _ (this _ e)) = omega arith
    go no_register (later _ (later _ (this _ e))) = omega arith
    go no_register (later _ (later _ (later _ (this _ e)))) = omega arith
    go (a_register nodes holders) (this _ e) = omega arith
    go (a_register nodes holders) (later _ (this _ e)) = omega arith
    go (a_register nodes holders) (later _ (later _ (this _ e))) = omega arith
    go (a_register nodes holders) (later _ (later _ (later _ (this _ e)))) = omega arith
    go (a_register nodes holders) (later _ (later _ (later _ (later _ (this _ e))))) = omega arith

-- where the first rule broken is not among the first rules, these are kept
record BrokenLater (n : ℕ) (rules behind : List Rule) : Type 1 where
  kept : AllKept rules
  broken : FirstBroken n behind

broken_later : {n : ℕ} (rules behind : List Rule) → ¬ FirstBroken n rules → FirstBroken n (rules ++ behind) → BrokenLater n rules behind
broken_later [] behind h b = record { kept = none; broken = b }
broken_later (rule ∷ rules) behind h (this k e) = absurd (h (this k e))
broken_later (rule ∷ rules) behind h (later k b) = let z = broken_later rules behind (λ c. h (later k c)) b in record { kept = also k z.kept; broken = z.broken }

pub pages18_claim : Pages18Claim
unfolding Pages18Claim pages_answer pages_rules
pages18_claim asked output =
    let number = refused_number (refusal (pages_rules asked output)) (pages_needed asked) 18 (omega arith) in
    let first = refused_exactly 18 (pages_numbered asked output) (omega arith) in (
      (λ e. let z = broken_later (asked_rules asked) _ (not_asked asked) (first.0 (number.0 e)) in ((answered_exactly (asked_numbered asked)).1 z.kept, short z.broken)),
      (λ k. number.1 (to_pages asked output k.0 ∙ broken_here (pages_rule (pages_needed asked) output) [] (λ (h : pages_needed asked * page_bytes ≤ length output). omega (arith, k.1)))),
    )
  where
    short : FirstBroken 18 (pages_rule (pages_needed asked) output ∷ []) → length output < pages_needed asked * page_bytes
    short (later _ x6) = elim x6 [ ]
    short (this h _) = omega arith

pub pages_untouched_claim : PagesUntouchedClaim
unfolding PagesUntouchedClaim pages_answer pages_output answer output_after
pages_untouched_claim asked output number e = go (refusal (pages_rules asked output)) e
  where
    go : (n : ℕ) → answer n (pages_needed asked) ≡ Refused number → output_after n (pages_of asked) output ≡ output
    go zero k = let z : ◌≡◌ {A = ℕ} 0 1 = cc in absurd (omega arith)
    go (suc n) k = refl

pub pages_written_claim : PagesWrittenClaim
unfolding PagesWrittenClaim pages_answer pages_output output_after pages_rules
pages_written_claim asked output pages e =
    let done = (done_number (refusal (pages_rules asked output)) (pages_needed asked) pages).0 e in
    let kept = kept_first (asked_rules asked) _ ((answered_exactly (pages_numbered asked output)).0 done.0) in
    let long : length (pages_of asked) ≡ pages * page_bytes = size (accepted asked 0 (sym ((answered_exactly (asked_numbered asked)).1 kept)) refl) ∙ ap (λ (n : ℕ). n * page_bytes) done.1 in
    let front : pages_output asked output ≡ pages_of asked ++ drop (length (pages_of asked)) output = ap (λ (n : ℕ). output_after n (pages_of asked) output) done.0 in (
      ap (take (pages * page_bytes)) front ∙ take_at (pages_of asked) (drop (length (pages_of asked)) output) (pages * page_bytes) long,
      ap (drop (pages * page_bytes)) front ∙ drop_at (pages_of asked) (drop (length (pages_of asked)) output) (pages * page_bytes) long ∙ ap (λ (n : ℕ). drop n output) long,
    )
