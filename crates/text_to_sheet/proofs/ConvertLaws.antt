-- LAWS. What `parse` and `write` tell of a text, with room for any fleet and for the sheet of any; and the lines of a complaint.
use mathlib.Core.Path.{◌≡◌, refl, sym, ap, subst, ◌∙◌}
use mathlib.Core.Logic.{ite, if_pos, if_neg}
use mathlib.Core.List.{List, [], ◌∷◌, ◌++◌}
use Prim.Native.Nat.{ℕ, ◌≤◌}
use native.Mathlib.Omega.{arith}
use native.Mathlib.Decide.{dec_le, ℕ_discrete}
use lib.ListN.{length, take, drop, length-append}
use lib.Seq.{take_at}
use Rattle.terms.specs.Fleet.{IsFleet}
use Rattle.terms.specs.Refusal.{refusal, none, also}
use Rattle.terms.proofs.RefusalLaws.{all_kept_refusal}
use Rattle.writing.specs.Writing.{writing}
use Rattle.sheet.specs.WriteCall.{write_rules, write_answer, write_output}
use Rattle.fleet.specs.declared.Answer.{Answer}
use Rattle.fleet.specs.declared.Answer.TheVariants.{Done, Refused}
use Rattle.fleet.proofs.AnswerLaws.{done_with}
use Rattle.sheet_text.specs.TextReading.{TextReading, whole, stopped, text_reading, within_memory, answer_of, memory_of, parse_answer, parse_output}
use Rattle.sheet_text.specs.declared.Parsed.{Parsed}
use Rattle.sheet_text.specs.declared.Parsed.TheVariants.{Pairs, Refused as Stopped}
use Rattle.sheet_text.specs.Claims.{TextIsFleetClaim}
use Rattle.sheet_text.proofs.Claims.{text_is_fleet_claim}
use Rattle.text.specs.Text.{line_end, decimal}
use Rattle.text.specs.Building.{Put}
use Rattle.text.proofs.TextLaws.{then_put}
use Rattle.lines.specs.Lines.{refused_word, refusal_line}
use Rattle.text_to_sheet.specs.Converting.{converted_from, sheet_after, SheetWithin, line_word, no_pair_line, too_long_line, cause_line, complaint_line}
use Rattle.text_to_sheet.specs.declared.Converted.{Converted}
use Rattle.text_to_sheet.specs.declared.Converted.TheVariants.{Sheet, Wrong}
use Rattle.writing.proofs.WritingLaws.{writing_length}

-- what `parse` tells, by what the text says
pub data Told (memory : List ℕ) : TextReading → Parsed → List ℕ → Type 0 where
  a_fleet : (pairs : List ℕ) → IsFleet pairs → Told memory (whole pairs) (Pairs (length pairs)) (pairs ++ drop (length pairs) memory)
  a_wrong_line : (line cause : ℕ) → Told memory (stopped line cause) (Stopped line cause) memory

told : (text memory : List ℕ) → length memory ≡ 4096 → Told memory (text_reading text) (parse_answer text memory) (parse_output text memory)
unfolding TextIsFleetClaim within_memory answer_of memory_of
told text memory room = go (text_reading text) refl
  where
    go : (t : TextReading) → text_reading text ≡ t → Told memory t (answer_of (within_memory t memory)) (memory_of (within_memory t memory) memory)
    go (whole pairs) e =
        let f = text_is_fleet_claim text pairs e in
        let fits : ite (dec_le (length pairs) (length memory)) (whole pairs) (stopped 0 17) ≡ whole pairs = if_pos (dec_le (length pairs) (length memory)) (omega (arith, f.nodes)) (whole pairs) (stopped 0 17) in
        rw fits (a_fleet pairs f)
    go (stopped line cause) e = a_wrong_line line cause

pub told_as : (text memory : List ℕ) {a : Parsed} {exit : List ℕ} → length memory ≡ 4096 → (a ≡ parse_answer text memory) × (exit ≡ parse_output text memory) → Told memory (text_reading text) a exit
told_as text memory room e = rw (e.0, e.1) (told text memory room)

-- what `write` told of the first so many pairs
abbrev Written : (sheet : List ℕ) (nodes : ℕ) (exit after : List ℕ) → Answer → Type 0
Written sheet nodes exit after w = (w ≡ write_answer (take nodes exit) sheet) × (after ≡ write_output (take nodes exit) sheet)

-- of a fleet its sheet, for which there is room
fleet_written : (sheet : List ℕ) → length sheet ≡ 16388 → (memory pairs : List ℕ) (nodes : ℕ) {after : List ℕ} {w : Answer} → IsFleet pairs → length pairs ≡ nodes → Written sheet nodes (pairs ++ drop (length pairs) memory) after w
    → (w ≡ Done (length (writing pairs))) × (after ≡ writing pairs ++ drop (length (writing pairs)) sheet)
unfolding write_answer write_output
fleet_written sheet room memory pairs nodes f n v =
    let front : take nodes (pairs ++ drop (length pairs) memory) ≡ pairs = take_at pairs (drop (length pairs) memory) nodes n in
    let right = done_with (refusal (write_rules pairs sheet)) (length (writing pairs)) (writing pairs) sheet (writing pairs ++ drop (length (writing pairs)) sheet)
    (all_kept_refusal (also f (also (omega (arith, f.nodes, writing_length pairs)) none))) refl in
    (v.0 ∙ ap (λ (s : List ℕ). write_answer s sheet) front ∙ sym right.0, v.1 ∙ ap (λ (s : List ℕ). write_output s sheet) front ∙ sym right.1)

module _ {memory : List ℕ} where
  pub nodes_within : {t : TextReading} {a : Parsed} {exit : List ℕ} {nodes : ℕ} → Told memory t a exit → a ≡ Pairs nodes → nodes ≤ length exit
  nodes_within {nodes = nodes} (a_fleet pairs f) e =
      let n : length pairs ≡ nodes = cc in
      omega (arith, length-append pairs (drop (length pairs) memory))
  nodes_within (a_wrong_line line cause) e = absurd (let z : ◌≡◌ {A = ℕ} 0 1 = cc in omega arith)

  pub wrong_text : {t : TextReading} {a : Parsed} {exit : List ℕ} {line cause : ℕ} (sheet : List ℕ) → Told memory t a exit → a ≡ Stopped line cause
      → (Wrong line cause ≡ converted_from t) × ((sheet ≡ sheet_after t sheet) × SheetWithin (Wrong line cause) (length sheet))
  unfolding converted_from sheet_after SheetWithin
  wrong_text sheet (a_fleet pairs f) e = absurd (let z : ◌≡◌ {A = ℕ} 0 1 = cc in omega arith)
  wrong_text sheet (a_wrong_line line cause) e = (cc, (refl, tt))

  module _ (sheet : List ℕ) (room : length sheet ≡ 16388) where
    pub sheet_written : {t : TextReading} {a : Parsed} {exit after : List ℕ} {nodes size : ℕ} {w : Answer} → Told memory t a exit → a ≡ Pairs nodes → Written sheet nodes exit after w → w ≡ Done size
        → (Sheet size ≡ converted_from t) × ((after ≡ sheet_after t sheet) × SheetWithin (Sheet size) (length after))
    unfolding converted_from sheet_after SheetWithin
    sheet_written (a_wrong_line line cause) e v d = absurd (let z : ◌≡◌ {A = ℕ} 0 1 = cc in omega arith)
    sheet_written {nodes = nodes} {size = size} {w = w} (a_fleet pairs f) e v d =
        let right = fleet_written sheet room memory pairs nodes f (cc) v in
        let answered : w ≡ Done (length (writing pairs)) = right.0 in
        let same : size ≡ length (writing pairs) = cc in
        (ap Sheet same, (right.1, omega (arith, ap length right.1, length-append (writing pairs) (drop (length (writing pairs)) sheet))))

    pub not_refused : {t : TextReading} {a : Parsed} {exit after : List ℕ} {nodes number : ℕ} {w : Answer} → Told memory t a exit → a ≡ Pairs nodes → Written sheet nodes exit after w → ¬ (w ≡ Refused number)
    not_refused (a_wrong_line line cause) e v d = absurd (let z : ◌≡◌ {A = ℕ} 0 1 = cc in omega arith)
    not_refused {nodes = nodes} {w = w} (a_fleet pairs f) e v d =
        let answered : w ≡ Done (length (writing pairs)) = (fleet_written sheet room memory pairs nodes f (cc) v).0 in
        absurd (let z : ◌≡◌ {A = ℕ} 0 1 = cc in omega arith)

pub size_within : {r : Converted} {size : ℕ} (most : ℕ) → r ≡ Sheet size → SheetWithin r most → size ≤ most
unfolding SheetWithin
size_within {r} {size} most e h = subst (λ (i : Converted). SheetWithin i most) e h

-- the parts of a complaint, one after the other
module _ (line cause : ℕ) {a b c : List ℕ} {i j : ℕ} (said : Put a 0 line_word b i) (numbered : Put b i (decimal line) c j) where
  placed : {d bytes : List ℕ} {k : ℕ} → Put c j (58 ∷ 32 ∷ bytes) d k → cause_line cause ≡ bytes → Put a 0 (complaint_line line cause) d k
  unfolding complaint_line
  placed h e = rw e (then_put (then_put said numbered) h)

  pub no_pair_said : {d : List ℕ} {k : ℕ} → cause ≡ 0 → Put c j (58 ∷ 32 ∷ no_pair_line) d k → Put a 0 (complaint_line line cause) d k
  unfolding cause_line
  no_pair_said e h = placed h (if_pos (ℕ_discrete cause 0) e _ _)

  pub too_long_said : {d : List ℕ} {k : ℕ} → ¬ (cause ≡ 0) → cause ≡ 255 → Put c j (58 ∷ 32 ∷ too_long_line) d k → Put a 0 (complaint_line line cause) d k
  unfolding cause_line
  too_long_said n e h = placed h (if_neg (ℕ_discrete cause 0) n _ _ ∙ if_pos (ℕ_discrete cause 255) e _ _)

  pub refusal_said : {d e f : List ℕ} {k l m : ℕ} → ¬ (cause ≡ 0) → ¬ (cause ≡ 255) → Put c j (58 ∷ 32 ∷ refused_word) d k → Put d k (decimal cause) e l → Put e l (line_end ∷ []) f m
      → Put a 0 (complaint_line line cause) f m
  unfolding cause_line refusal_line
  refusal_said n m h p q = placed (then_put (then_put h p) q) (if_neg (ℕ_discrete cause 0) n _ _ ∙ if_neg (ℕ_discrete cause 255) m _ _)
