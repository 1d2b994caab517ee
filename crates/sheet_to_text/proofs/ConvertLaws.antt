-- LAWS. What `read` and `print` tell of a sheet, with room for any fleet and for the text of any.
use mathlib.Core.Path.{◌≡◌, refl, sym, ap, subst, ◌∙◌}
use mathlib.Core.List.{List, [], ◌∷◌, ◌++◌}
use Prim.Native.Nat.{ℕ, zero, suc, ◌≤◌}
use native.Mathlib.Omega.{arith}
use lib.ListN.{length, take, drop, length-append}
use lib.Seq.{take_at}
use Rattle.terms.specs.Fleet.{IsFleet}
use Rattle.terms.specs.Refusal.{refusal, output_after, none, also}
use Rattle.terms.proofs.RefusalLaws.{all_kept_refusal}
use Rattle.fleet.specs.Answering.{answer}
use Rattle.fleet.specs.Rules.{output_rule}
use Rattle.sheet.specs.Reading.{Reading, accepted, refused, reading, pairs_said, read_refusal, read_answer, read_output}
use Rattle.fleet.specs.declared.Answer.{Answer}
use Rattle.fleet.specs.declared.Answer.TheVariants.{Done, Refused}
use Rattle.fleet.proofs.AnswerLaws.{done_with}
use Rattle.sheet.proofs.ReadingTurns.{number_in_range}
use Rattle.sheet.proofs.WayBack.{said_is_fleet}
use Rattle.fleet_text.specs.FleetText.{fleet_text, print_rules, print_answer, print_output}
use Rattle.fleet_text.specs.Claims.{TextShortClaim}
use Rattle.fleet_text.proofs.Claims.{text_short_claim}
use Rattle.sheet_to_text.specs.Converting.{text_answer, text_after, TextWithin}

-- what `read` tells, by what the sheet says
pub data Told (memory : List ℕ) : Reading → Answer → List ℕ → Type 0 where
  a_fleet : (pairs : List ℕ) → IsFleet pairs → Told memory (accepted pairs) (Done (length pairs)) (pairs ++ drop (length pairs) memory)
  a_refusal : (number : ℕ) → Told memory (refused (suc number)) (Refused (suc number)) memory

told : (sheet memory : List ℕ) → length memory ≡ 4096 → Told memory (reading sheet) (read_answer sheet memory) (read_output sheet memory)
unfolding read_answer read_output read_refusal pairs_said answer output_after
told sheet memory room = go (reading sheet) refl
  where
    go : (r : Reading) → reading sheet ≡ r → Told memory r (answer (read_refusal r memory) (length (pairs_said r))) (output_after (read_refusal r memory) (pairs_said r) memory)
    go (accepted pairs) e =
        let f = said_is_fleet sheet pairs e in
        let fits : refusal (output_rule (length pairs) memory ∷ []) ≡ 0 = all_kept_refusal (also {rule = output_rule (length pairs) memory} (omega (arith, f.nodes)) none) in
        rw fits (a_fleet pairs f)
    go (refused zero) e = absurd (omega (arith, (number_in_range sheet 0 e).0))
    go (refused (suc number)) e = a_refusal number

pub told_as : (sheet memory : List ℕ) {a : Answer} {exit : List ℕ} → length memory ≡ 4096 → (a ≡ read_answer sheet memory) × (exit ≡ read_output sheet memory) → Told memory (reading sheet) a exit
told_as sheet memory room e = rw (e.0, e.1) (told sheet memory room)

module _ {memory : List ℕ} where
  pub nodes_within : {r : Reading} {a : Answer} {exit : List ℕ} {nodes : ℕ} → Told memory r a exit → a ≡ Done nodes → nodes ≤ length exit
  nodes_within {nodes = nodes} (a_fleet pairs f) e =
      let n : length pairs ≡ nodes = cc in
      omega (arith, length-append pairs (drop (length pairs) memory))
  nodes_within (a_refusal number) e = absurd (let z : ◌≡◌ {A = ℕ} 0 1 = cc in omega arith)

  pub refused_sheet : {r : Reading} {a : Answer} {exit : List ℕ} {number : ℕ} (text : List ℕ) → Told memory r a exit → a ≡ Refused number
      → (Refused number ≡ text_answer r) × ((text ≡ text_after r text) × TextWithin (Refused number) (length text))
  unfolding text_answer text_after TextWithin
  refused_sheet text (a_fleet pairs f) e = absurd (let z : ◌≡◌ {A = ℕ} 0 1 = cc in omega arith)
  refused_sheet text (a_refusal number) e = (cc, (refl, tt))

  pub text_printed : {r : Reading} {a : Answer} {exit after : List ℕ} {nodes : ℕ} {w : Answer} (text : List ℕ) → length text ≡ 28672 → Told memory r a exit → a ≡ Done nodes
      → (w ≡ print_answer (take nodes exit) text) × (after ≡ print_output (take nodes exit) text) → (w ≡ text_answer r) × ((after ≡ text_after r text) × TextWithin w (length after))
  unfolding TextShortClaim text_answer text_after TextWithin print_answer print_output
  text_printed text room (a_refusal number) e v = absurd (let z : ◌≡◌ {A = ℕ} 0 1 = cc in omega arith)
  text_printed {nodes = nodes} {w = w} text room (a_fleet pairs f) e v =
      let front : take nodes (pairs ++ drop (length pairs) memory) ≡ pairs = take_at pairs (drop (length pairs) memory) nodes (cc) in
      let right = done_with (refusal (print_rules pairs text)) (length (fleet_text pairs)) (fleet_text pairs) text (fleet_text pairs ++ drop (length (fleet_text pairs)) text)
      (all_kept_refusal (also f (also (omega (arith, f.nodes, text_short_claim pairs f)) none))) refl in
      let answered : w ≡ Done (length (fleet_text pairs)) = v.0 ∙ ap (λ (s : List ℕ). print_answer s text) front ∙ sym right.0 in
      let put = v.1 ∙ ap (λ (s : List ℕ). print_output s text) front ∙ sym right.1 in
      (answered, (put, rw answered (omega (arith, ap length put, length-append (fleet_text pairs) (drop (length (fleet_text pairs)) text)))))

pub size_within : {r : Answer} {size : ℕ} (most : ℕ) → r ≡ Done size → TextWithin r most → size ≤ most
unfolding TextWithin
size_within {r} {size} most e h = subst (λ (i : Answer). TextWithin i most) e h
