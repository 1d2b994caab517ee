-- THE CLAIMS of the sheet layer, over the definitions that the contracts cite.
use mathlib.Core.Path.{◌≡◌, refl, sym, ap, ◌∙◌}
use mathlib.Core.Logic.{◌↔◌, ◌⊎◌, inl, inr, ⊎_elim}
use mathlib.Core.List.{List, [], ◌∷◌, ◌++◌}
use Prim.Native.Nat.{ℕ, zero, suc, ◌≤◌, ◌<◌}
use native.Mathlib.Omega.{arith}
use lib.ListN.{length, take, drop}
use lib.Seq.{take_at}
use Rattle.terms.specs.Fleet.{IsFleet}
use Rattle.terms.specs.Refusal.{refusal, FirstBroken, this, AllKept, none, also, output_after, Numbered, no_rule, and_rule}
use Rattle.terms.proofs.RefusalLaws.{refused_exactly, answered_exactly, first_broken_refusal, all_kept_refusal}
use Rattle.fleet.specs.declared.Answer.TheVariants.{Done}
use Rattle.fleet.specs.Rules.{output_rule}
use Rattle.record.specs.Record.{said_depth, said_label, field_bytes}
use Rattle.record.specs.NextRecord.{record_rules, Step, node, end, wrong, step_of, next_record}
use Rattle.sheet.specs.Reading.{Reading, accepted, refused, reading, pairs_said, read_refusal, read_answer, read_output}
use Rattle.writing.specs.Writing.{writing}
use Rattle.sheet.specs.WriteCall.{write_rules, write_answer, write_output}
use Rattle.fleet.proofs.AnswerLaws.{done_with, done_exactly, done_number, refused_number}
use Rattle.sheet.proofs.ReadingTurns.{not_both, accepted_same, refused_same, number_in_range}
use Rattle.record.proofs.RecordLaws.{record_refusal, record_numbered}
use Rattle.sheet.proofs.RoundTrip.{writing_reads_back}
use Rattle.sheet.proofs.WayBack.{said_is_fleet, said_writes_back}
use Rattle.sheet.specs.Claims.{RecordRefusedExactly, ReadRefusedExactly, ReadAnsweredExactly, WrittenReadsBack, ReadWritesBack, WriteRefusedExactly, WriteAnsweredExactly}

-- the number of a wrong record
number_of : Step → ℕ
number_of (node depth label remain) = 0
number_of end = 0
number_of (wrong number) = number

pub record_refused_exactly : RecordRefusedExactly
unfolding next_record step_of number_of
record_refused_exactly before bits bytes n h = ((λ e. exactly.0 (to (record_refusal before bits bytes) e)), (λ b. from (record_refusal before bits bytes) (exactly.1 b)))
  where
    exactly : (refusal (record_rules before bits bytes) ≡ n) ↔ FirstBroken n (record_rules before bits bytes)
    exactly = refused_exactly n (record_numbered before bits bytes) h

    to : (k : ℕ) → step_of k (said_depth before bits bytes) (said_label before bits bytes) (drop (field_bytes bits) bytes) ≡ wrong n → k ≡ n
    to zero e = absurd (omega (arith, ap number_of e))
    to (suc k) e = ap number_of e

    from : (k : ℕ) → k ≡ n → step_of k (said_depth before bits bytes) (said_label before bits bytes) (drop (field_bytes bits) bytes) ≡ wrong n
    from zero e = absurd (omega arith)
    from (suc k) e = ap wrong e

-- `read` is refused with the number that the sheet gets, or with 17 where its pairs do not fit, and otherwise gives how many they are.
read_refusal_exactly : (said : Reading) (output : List ℕ) (n : ℕ) → 1 ≤ n → (read_refusal said output ≡ n) ↔ ((said ≡ refused n) ⊎ ((pairs : List ℕ) × (said ≡ accepted pairs) × (length output < length pairs) × (n ≡ 17)))
unfolding read_refusal
read_refusal_exactly (refused number) output n h = ((λ e. inl (ap refused e)), (λ w. ⊎_elim refused_same (λ p. absurd (not_both p.1)) w))
read_refusal_exactly (accepted pairs) output n h = ((λ e. short ((refused_exactly n short_numbered h).0 e)), (λ w. ⊎_elim (λ e. absurd (not_both (sym e))) long w))
  where
    short_numbered : Numbered (output_rule (length pairs) output ∷ [])
    short_numbered = and_rule 16 refl no_rule

    short : FirstBroken n (output_rule (length pairs) output ∷ []) → (accepted pairs ≡ refused n) ⊎ ((pairs' : List ℕ) × (accepted pairs ≡ accepted pairs') × (length output < length pairs') × (n ≡ 17))
    short (Rattle.terms.specs.Refusal.later _ x7) = elim x7 [ ]
    short (this b e) = inr (pairs, refl, omega (arith, b), sym e)

    long : (pairs' : List ℕ) × (accepted pairs ≡ accepted pairs') × (length output < length pairs') × (n ≡ 17) → refusal (output_rule (length pairs) output ∷ []) ≡ n
    long p = first_broken_refusal (this {rule = output_rule (length pairs) output} {rules = []} (λ fits. omega (arith, ap length (accepted_same p.1), p.2)) (sym p.3))

pub read_refused_exactly : ReadRefusedExactly
unfolding read_answer
read_refused_exactly sheet output n h =
    let number = refused_number (read_refusal (reading sheet) output) (length (pairs_said (reading sheet))) n h in
    let exactly = read_refusal_exactly (reading sheet) output n h in
    ((λ e. exactly.0 (number.0 e)), (λ w. number.1 (exactly.1 w)))

pub read_answered_exactly : ReadAnsweredExactly
unfolding read_answer read_refusal pairs_said
read_answered_exactly sheet output n =
    let done = done_number (read_refusal (reading sheet) output) (length (pairs_said (reading sheet))) n in
    ((λ e. to (reading sheet) refl (done.0 e)), (λ a. done.1 (from (reading sheet) a)))
  where
    to : (said : Reading) → reading sheet ≡ said → (read_refusal said output ≡ 0) × (length (pairs_said said) ≡ n) → (pairs : List ℕ) × (said ≡ accepted pairs) × (length pairs ≤ length output) × (length pairs ≡ n)
    to (accepted pairs) e z = (pairs, refl, fits ((answered_exactly (and_rule 16 refl no_rule)).0 z.0), z.1)
      where
        fits : AllKept (output_rule (length pairs) output ∷ []) → length pairs ≤ length output
        fits (also f none) = f
    to (refused number) e z = absurd (omega (arith, number_in_range sheet number e, z.0))

    from : (said : Reading) → (pairs : List ℕ) × (said ≡ accepted pairs) × (length pairs ≤ length output) × (length pairs ≡ n) → (read_refusal said output ≡ 0) × (length (pairs_said said) ≡ n)
    from said a = rw a.1 (all_kept_refusal (also {rule = output_rule (length a.0) output} a.2 none), a.3)

write_numbered : (pairs output : List ℕ) → Numbered (write_rules pairs output)
write_numbered pairs output = and_rule 9 refl (and_rule 16 refl no_rule)

pub written_reads_back : WrittenReadsBack
unfolding write_answer write_output read_answer read_output read_refusal pairs_said output_after
written_reads_back pairs output n e output' room =
    let d = (done_number (refusal (write_rules pairs output)) (length (writing pairs)) n).0 e in
    let sheet : take n (write_output pairs output) ≡ writing pairs
    = ap (λ (k : ℕ). take n (output_after k (writing pairs) output)) d.0 ∙ take_at (writing pairs) (drop (length (writing pairs)) output) n d.1 in
    let z = done_with (refusal (output_rule (length pairs) output' ∷ [])) (length pairs) pairs output' (pairs ++ drop (length pairs) output') (all_kept_refusal (also {rule = output_rule (length pairs) output'} room none)) refl in
    rw (sheet, writing_reads_back pairs (fleet ((answered_exactly (write_numbered pairs output)).0 d.0))) (sym z.0, sym z.1)
  where
    fleet : AllKept (write_rules pairs output) → IsFleet pairs
    fleet (also f (also _ none)) = f

pub read_writes_back : ReadWritesBack
unfolding read_answer read_output pairs_said output_after write_answer write_output
read_writes_back sheet output n bytes e output' room =
    let d = (done_number (read_refusal (reading sheet) output) (length (pairs_said (reading sheet))) n).0 e in
    let a = (read_answered_exactly sheet output n).0 e in
    let pairs : take n (read_output sheet output) ≡ a.0
    = ap (λ (k : ℕ). take n (output_after k (pairs_said (reading sheet)) output)) d.0 ∙ take_at (pairs_said (reading sheet)) (drop (length (pairs_said (reading sheet))) output) n d.1 ∙ ap pairs_said a.1 in
    rw pairs (written a.0 a.1)
  where
    written : (pairs : List ℕ) → reading sheet ≡ accepted pairs → (write_answer pairs output' ≡ Done (length sheet)) × (write_output pairs output' ≡ sheet ++ drop (length sheet) output')
    written pairs said =
        let w : writing pairs ≡ sheet = said_writes_back sheet pairs bytes said in
        let room' : length (writing pairs) ≤ length output' = rw w room in
        let z = done_with (refusal (write_rules pairs output')) (length (writing pairs)) (writing pairs) output' (writing pairs ++ drop (length (writing pairs)) output') (all_kept_refusal (also (said_is_fleet sheet pairs said) (also room' none))) refl in
        let a : write_answer pairs output' ≡ Done (length (writing pairs)) = sym z.0 in
        let b : write_output pairs output' ≡ writing pairs ++ drop (length (writing pairs)) output' = sym z.1 in
        (a ∙ ap (λ (bytes : List ℕ). Done (length bytes)) w, b ∙ ap (λ (bytes : List ℕ). bytes ++ drop (length bytes) output') w)

pub write_refused_exactly : WriteRefusedExactly
unfolding write_answer
write_refused_exactly pairs output n h =
    let number = refused_number (refusal (write_rules pairs output)) (length (writing pairs)) n h in
    let first = refused_exactly n (write_numbered pairs output) h in
    ((λ e. first.0 (number.0 e)), (λ b. number.1 (first.1 b)))

pub write_answered_exactly : WriteAnsweredExactly
unfolding write_answer
write_answered_exactly pairs output =
    let done = done_exactly (refusal (write_rules pairs output)) (length (writing pairs)) in
    let kept = answered_exactly (write_numbered pairs output) in
    ((λ e. kept.0 (done.0 e)), (λ a. done.1 (kept.1 a)))
