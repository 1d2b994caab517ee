-- LAWS. One for each way out of `read_counted` and `read_unless`: a sheet read into room for any fleet, and into no room.
use mathlib.Core.Path.{◌≡◌, refl, sym, ap, ◌∙◌}
use mathlib.Core.List.{List, [], ◌∷◌, ◌++◌}
use Prim.Native.Nat.{ℕ, zero, suc, ◌≤◌, ◌<◌}
use native.Mathlib.Omega.{arith}
use lib.ListN.{length, take, drop, length-append, length-drop}
use lib.Seq.{take-append_seam, drop_at}
use Rattle.terms.specs.Refusal.{output_after, none, also}
use Rattle.terms.specs.Remarks.{remark?, without_remarks}
use Rattle.terms.proofs.RemainingFleet.{no_more_remain}
use Rattle.terms.proofs.RefusalLaws.{all_kept_refusal, broken_here}
use Rattle.fleet.specs.declared.Answer.{Answer}
use Rattle.fleet.specs.declared.Answer.TheVariants.{Done, Refused}
use Rattle.fleet.specs.Answering.{answer}
use Rattle.fleet.specs.Rules.{output_rule}
use Rattle.sheet.specs.Reading.{Reading, accepted, refused, reading, pairs_said, read_refusal, read_answer, read_output}
use Rattle.sheet.proofs.ReadingTurns.{number_in_range}
use Rattle.sheet.proofs.WayBack.{said_is_fleet}
use Rattle.terms.specs.Fleet.{IsFleet, vehicles}
use Rattle.remarks.specs.TakenOut.{moved_to_front}
use Rattle.opening.specs.Asking.{refusal_after, fleet_answer, fleet_output}

-- what is to be shown at a way out: the answer, and the memory
abbrev Right : (sheet : List ℕ) (later : ℕ) (memory exit : List ℕ) → Answer → Type 0
Right sheet later memory exit r = (r ≡ fleet_answer (reading sheet) later) × (exit ≡ fleet_output (reading sheet) later memory)

pub some_pair : (pairs : List ℕ) → IsFleet pairs → 1 ≤ length pairs
unfolding vehicles
some_pair [] f = absurd (omega (arith, f.some_tree))
some_pair (x ∷ pairs) f = omega arith

-- a sheet is refused with a number from 1 to 9, or says a fleet
pub data Said (sheet : List ℕ) : Reading → Type 0 where
  wrong : (number : ℕ) → number < 9 → Said sheet (refused (suc number))
  right : (pairs : List ℕ) → IsFleet pairs → Said sheet (accepted pairs)

pub said : (sheet : List ℕ) → Said sheet (reading sheet)
said sheet = go (reading sheet) refl
  where
    go : (r : Reading) → reading sheet ≡ r → Said sheet r
    go (refused zero) e = absurd (omega (arith, (number_in_range sheet 0 e).0))
    go (refused (suc number)) e = wrong number (omega (arith, (number_in_range sheet (suc number) e).1))
    go (accepted pairs) e = right pairs (said_is_fleet sheet pairs e)

-- room for any fleet: only the sheet is judged
enough : {sheet : List ℕ} {r : Reading} (memory : List ℕ) → length memory ≡ 4096 → Said sheet r → read_refusal r memory ≡ refusal_after r 0
unfolding read_refusal refusal_after
enough memory long (wrong number h) = refl
enough memory long (right pairs f) = all_kept_refusal (also {rule = output_rule (length pairs) memory} (omega (arith, f.nodes)) none)

unfoldable refused_with : Answer → ℕ
refused_with (Done n) = 0
refused_with (Refused n) = n

unfoldable done_with : Answer → ℕ
done_with (Done n) = n
done_with (Refused n) = 0

as_long : (pairs : List ℕ) → length (moved_to_front pairs) ≡ length pairs
unfolding without_remarks
as_long pairs = length-append (without_remarks pairs) (drop (length (without_remarks pairs)) pairs) ∙ omega (arith, length-drop (length (without_remarks pairs)) pairs, no_more_remain pairs (remark? pairs))

module _ (sheet memory read : List ℕ) {a : Answer} (long : length memory ≡ 4096) (e : (a ≡ read_answer sheet memory) × (read ≡ read_output sheet memory)) where
  said_so : (a ≡ answer (refusal_after (reading sheet) 0) (length (pairs_said (reading sheet)))) × (read ≡ output_after (refusal_after (reading sheet) 0) (pairs_said (reading sheet)) memory)
  unfolding read_answer read_output
  said_so = let q = enough memory long (said sheet) in rw q at e

  -- the sheet is right: what was read stands in front
  read_done : {r : Reading} {nodes : ℕ} → Said sheet r → (a ≡ answer (refusal_after r 0) (length (pairs_said r))) × (read ≡ output_after (refusal_after r 0) (pairs_said r) memory) → a ≡ Done nodes
      → (nodes ≡ length (pairs_said r)) × (read ≡ pairs_said r ++ drop (length (pairs_said r)) memory) × (refusal_after r 0 ≡ 0)
  unfolding refusal_after pairs_said answer output_after refused_with done_with
  read_done (wrong number h) t is = absurd (omega (arith, ap refused_with (sym is ∙ t.0)))
  read_done (right pairs f) t is = (ap done_with (sym is ∙ t.0), t.1, refl)

  pub read_within : {nodes : ℕ} → a ≡ Done nodes → nodes ≤ length read
  read_within is = let d = read_done (said sheet) said_so is in omega (arith, d.0, ap length d.1, length-append (pairs_said (reading sheet)) (drop (length (pairs_said (reading sheet))) memory))

  pub counted_read : (nodes : ℕ) {front front' : List ℕ} {len : ℕ} → a ≡ Done nodes → front ≡ take nodes read → (len ≡ length (without_remarks front)) × (front' ≡ moved_to_front front)
      → Right sheet 0 memory (front' ++ drop nodes read) (Done len)
  unfolding answer output_after
  counted_read nodes {front} {front'} {len} is f t =
      let pairs = pairs_said (reading sheet) in
      let d = read_done (said sheet) said_so is in
      let q : front ≡ pairs = f ∙ ap (λ (k : ℕ). take k read) d.0 ∙ ap (take (length pairs)) d.1 ∙ take-append_seam pairs (drop (length pairs) memory) in
      let b : drop nodes read ≡ drop (length pairs) memory = ap (λ (k : ℕ). drop k read) d.0 ∙ ap (drop (length pairs)) d.1 ∙ drop_at pairs (drop (length pairs) memory) (length pairs) refl in
      rw d.2 (ap Done (t.0 ∙ ap (λ (s : List ℕ). length (without_remarks s)) q), rw (b, as_long pairs) (ap (λ (s : List ℕ). s ++ drop (length pairs) memory) (t.1 ∙ ap moved_to_front q)))

  -- the sheet is wrong: nothing was read
  read_refused : {r : Reading} {number : ℕ} → Said sheet r → (a ≡ answer (refusal_after r 0) (length (pairs_said r))) × (read ≡ output_after (refusal_after r 0) (pairs_said r) memory) → a ≡ Refused number
      → (Refused number ≡ fleet_answer r 0) × (read ≡ fleet_output r 0 memory)
  unfolding refusal_after pairs_said answer output_after refused_with
  read_refused (wrong n h) t is = (sym is ∙ t.0, t.1)
  read_refused (right pairs f) t is = absurd (tell is t.0)
    where
      tell : {number : ℕ} → a ≡ Refused number → a ≡ Done (length pairs) → ⊥
      tell p q = let z : ◌≡◌ {A = ℕ} 0 1 = cc in omega arith

  pub refused_read : {number : ℕ} → a ≡ Refused number → Right sheet 0 memory read (Refused number)
  refused_read is = read_refused (said sheet) said_so is

-- no room: the sheet is judged, an accepted one gets 17, and nothing is put anywhere
no_room : {sheet : List ℕ} {r : Reading} → Said sheet r → read_refusal r [] ≡ refusal_after r 17
unfolding read_refusal refusal_after
no_room (wrong number h) = refl
no_room (right pairs f) = broken_here (output_rule (length pairs) []) [] (λ h. omega (arith, some_pair pairs f))

-- what a reading into no room told, by what the sheet says
module _ (sheet put memory : List ℕ) (a : Answer) (later : ℕ) (nonzero : ¬ (later ≡ 0)) where
  abbrev Told : Reading → Type 0
  Told r = (a ≡ answer (refusal_after r 17) (length (pairs_said r))) × (put ≡ output_after (refusal_after r 17) (pairs_said r) [])

  abbrev RightFor : Reading → Answer → Type 0
  RightFor r b = (b ≡ fleet_answer r later) × (put ++ memory ≡ fleet_output r later memory)

  told : (a ≡ read_answer sheet []) × (put ≡ read_output sheet []) → Told (reading sheet)
  unfolding read_answer read_output
  told e = rw (no_room (said sheet)) at e

  not_done : {r : Reading} (n : ℕ) → Said sheet r → Told r → ¬ (a ≡ Done n)
  unfolding refusal_after answer refused_with
  not_done n (wrong number h) t e = omega (arith, ap refused_with (sym e ∙ t.0))
  not_done n (right pairs f) t e = omega (arith, ap refused_with (sym e ∙ t.0))

  refused_later : {r : Reading} → Said sheet r → Told r → a ≡ Refused 17 → RightFor r (Refused later)
  unfolding refusal_after answer output_after refused_with pairs_said
  refused_later (wrong number h) t e = absurd (omega (arith, ap refused_with (sym e ∙ t.0)))
  refused_later (right pairs f) t e = by later nonzero
    where
      by : (later : ℕ) → ¬ (later ≡ 0) → (Refused later ≡ answer later (length (without_remarks pairs))) × (put ++ memory ≡ output_after later (moved_to_front pairs) memory)
      by zero nonzero = absurd (nonzero refl)
      by (suc later) nonzero = (refl, ap (λ (u : List ℕ). u ++ memory) t.1)

  refused_first : {r : Reading} (n : ℕ) → Said sheet r → Told r → a ≡ Refused n → ¬ (n ≡ 17) → RightFor r (Refused n)
  unfolding refusal_after answer output_after refused_with pairs_said
  refused_first n (wrong number h) t e k = (sym e ∙ t.0, ap (λ (u : List ℕ). u ++ memory) t.1)
  refused_first n (right pairs f) t e k = absurd (k (ap refused_with (sym e ∙ t.0)))

  module _ (e : (a ≡ read_answer sheet []) × (put ≡ read_output sheet [])) where
    pub accepted_without_room : {n : ℕ} → a ≡ Done n → Right sheet later memory (put ++ memory) (Refused later)
    accepted_without_room {n} is = absurd (not_done n (said sheet) (told e) is)

    pub refused_by_limits : {n : ℕ} → a ≡ Refused n → n ≡ 17 → Right sheet later memory (put ++ memory) (Refused later)
    refused_by_limits is z = refused_later (said sheet) (told e) (is ∙ ap Refused z)

    pub refused_by_sheet : {n : ℕ} → a ≡ Refused n → ¬ (n ≡ 17) → Right sheet later memory (put ++ memory) (Refused n)
    refused_by_sheet {n} is k = refused_first n (said sheet) (told e) is k
