-- LAWS. One for each way out of read.
use mathlib.Core.Path.{◌≡◌, refl, sym, ap, ◌∙◌}
use mathlib.Core.List.{List, [], ◌++◌}
use Prim.Native.Nat.{ℕ, zero, suc, ◌≤◌, ◌<◌}
use native.Mathlib.Omega.{arith}
use lib.ListN.{length, drop}
use Rattle.terms.specs.Refusal.{output_after, none, also}
use Rattle.terms.proofs.RefusalLaws.{broken_here, all_kept_refusal}
use Rattle.fleet.specs.Answering.{answer}
use Rattle.fleet.specs.Rules.{output_rule}
use Rattle.sheet.specs.Reading.{Reading, accepted, refused, reading, pairs_said, read_refusal, read_answer, read_output, count_answer}
use Rattle.fleet.specs.declared.Answer.{Answer}
use Rattle.fleet.specs.declared.Answer.TheVariants.{Done, Refused}
use Rattle.fleet.proofs.AnswerLaws.{refused_with, done_with}
use Rattle.sheet.proofs.ReadingTurns.{number_in_range}

unfoldable is_done : Answer → ℕ
is_done (Done n) = suc n
is_done (Refused k) = 0

unfoldable is_refused : Answer → ℕ
is_refused (Done n) = 0
is_refused (Refused k) = suc k

-- what is to be shown at a way out: the answer, and the output
abbrev Right : Reading → (output exit : List ℕ) → Answer → Type 0
Right said output exit r = (r ≡ answer (read_refusal said output) (length (pairs_said said))) × (exit ≡ output_after (read_refusal said output) (pairs_said said) output)

refused_as : (said : Reading) (output : List ℕ) (r : Answer) (k : ℕ) → ((n : ℕ) → said ≡ refused n → 1 ≤ n) → r ≡ count_answer said → r ≡ Refused k → Right said output output (Refused k)
unfolding count_answer is_done is_refused read_refusal
refused_as (accepted pairs) output r k range e q = absurd (omega (arith, ap is_done (sym q ∙ e)))
refused_as (refused zero) output r k range e q = absurd (omega (arith, range 0 refl))
refused_as (refused (suc n)) output r k range e q =
    let z : suc k ≡ suc (suc n) = ap is_refused (sym q ∙ e) in
    let w : k ≡ suc n = omega arith in
    rw w (refused_with (suc n) n _ _ output refl)

too_short : (said : Reading) (output : List ℕ) (r : Answer) (n : ℕ) → r ≡ count_answer said → r ≡ Done n → length output < n → Right said output output (Refused 17)
unfolding count_answer is_done is_refused read_refusal
too_short (accepted pairs) output r n e q h =
    let z : suc n ≡ suc (length pairs) = ap is_done (sym q ∙ e) in
    refused_with (read_refusal (accepted pairs) output) 16 _ _ output (broken_here (output_rule (length pairs) output) [] (λ w. omega arith))
too_short (refused k) output r n e q h = absurd (omega (arith, ap is_refused (sym q ∙ e)))

ready : (said : Reading) (output : List ℕ) (r : Answer) (n : ℕ) → r ≡ count_answer said → r ≡ Done n → n ≤ length output → (said ≡ accepted (pairs_said said)) × (length (pairs_said said) ≤ length output)
unfolding count_answer is_done is_refused pairs_said
ready (accepted pairs) output r n e q h = let z : suc n ≡ suc (length pairs) = ap is_done (sym q ∙ e) in (refl, omega arith)
ready (refused k) output r n e q h = absurd (omega (arith, ap is_refused (sym q ∙ e)))

read_whole : (said : Reading) (output exit : List ℕ) (r : Answer) (n : ℕ) → r ≡ count_answer said → r ≡ Done n → n ≤ length output → exit ≡ pairs_said said ++ drop (length (pairs_said said)) output → Right said output exit (Done n)
unfolding count_answer is_done is_refused read_refusal pairs_said
read_whole (accepted pairs) output exit r n e q h f =
    let z : suc n ≡ suc (length pairs) = ap is_done (sym q ∙ e) in
    let w : n ≡ length pairs = omega arith in
    let room : length pairs ≤ length output = omega arith in
    rw w (done_with (read_refusal (accepted pairs) output) (length pairs) pairs output exit (all_kept_refusal (also {rule = output_rule (length pairs) output} room none)) f)
read_whole (refused k) output exit r n e q h f = absurd (omega (arith, ap is_refused (sym q ∙ e)))

module _ (sheet output : List ℕ) (r : Answer) (c : r ≡ count_answer (reading sheet)) where
  pub read_refused : (k : ℕ) → r ≡ Refused k → (Refused k ≡ read_answer sheet output) × (output ≡ read_output sheet output)
  unfolding read_answer read_output
  read_refused k q = refused_as (reading sheet) output r k (λ n e. (number_in_range sheet n e).0) c q

  pub read_short : (n : ℕ) → r ≡ Done n → length output < n → (Refused 17 ≡ read_answer sheet output) × (output ≡ read_output sheet output)
  unfolding read_answer read_output
  read_short n q h = too_short (reading sheet) output r n c q h

  pub read_ready : (n : ℕ) → r ≡ Done n → n ≤ length output → (reading sheet ≡ accepted (pairs_said (reading sheet))) × (length (pairs_said (reading sheet)) ≤ length output)
  read_ready n q h = ready (reading sheet) output r n c q h

  pub read_done : (exit : List ℕ) (n : ℕ) → r ≡ Done n → n ≤ length output → exit ≡ pairs_said (reading sheet) ++ drop (length (pairs_said (reading sheet))) output → (Done n ≡ read_answer sheet output) × (exit ≡ read_output sheet output)
  unfolding read_answer read_output
  read_done exit n q h f = read_whole (reading sheet) output exit r n c q h f
