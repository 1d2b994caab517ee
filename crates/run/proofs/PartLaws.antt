-- LAWS. The loop over the lines of a part: what it keeps, and its two ways out; and what is left after a part.
use mathlib.Core.Path.{◌≡◌, refl, sym, ap, ◌∙◌}
use mathlib.Core.List.{List, [], ◌++◌, append_assoc}
use mathlib.Core.Logic.{◌⊎◌, inl, inr}
use Prim.Native.Nat.{ℕ, ◌+◌, ◌-◌, ◌≤◌, ◌<◌}
use native.Mathlib.Omega.{arith}
use lib.ListN.{length, take, length-append}
use Rattle.text.specs.Building.{Put}
use Rattle.text.proofs.TextLaws.{no_elements, put_none, put_as, put_front, put_length, put_within, then_put, taken_length}
use Rattle.lines.specs.Lines.{most_line_bytes}
use Rattle.expansion.specs.Levels.{Tables}
use Rattle.run.specs.Running.{still_to_write, next_line, IsRun, StepIs, most_part_bytes, PartIs}
use Rattle.run.specs.Claims.{EmptyTextClaim}
use Rattle.run.specs.declared.Run.{Run}
use Rattle.run.specs.declared.Step.{Step}
use Rattle.run.specs.declared.Part.{Part}
use Rattle.run.proofs.Claims.{empty_text_claim}

-- The lines so far stand in front of the buffer, and the run has the rest to write.
pub record Parting (first : Run) (memory buffer : List ℕ) (run : Run) (at : ℕ) (buffer' line : List ℕ) (t : Tables) : Type 0 where
  pub bytes : List ℕ
  pub put : Put buffer 0 bytes buffer' at
  pub whole : still_to_write first memory ≡ bytes ++ still_to_write run memory
  pub at_within : at ≤ most_part_bytes
  pub room_for_a_line : length line ≡ most_line_bytes
  pub is_run : IsRun run memory t

pub begins : {run : Run} {memory : List ℕ} (buffer line : List ℕ) {t : Tables} → length line ≡ most_line_bytes → IsRun run memory t → Parting run memory buffer run 0 buffer line t
begins buffer line l i = record { bytes = []; put = put_none buffer 0 (omega arith); whole = refl; at_within = omega arith; room_for_a_line = l; is_run = i }

module _ {first run : Run} {memory buffer : List ℕ} {at : ℕ} {buffer' line : List ℕ} {t₀ : Tables} (w : Parting first memory buffer run at buffer' line t₀) where
  -- the bytes so far are what stands in front
  so_far : take at buffer' ≡ w.bytes
  so_far = put_front w.put

  -- a part of the lines so far, with a run that has the rest to write
  part_of : {after : Run} {t : Tables} → still_to_write run memory ≡ still_to_write after memory → IsRun after memory t → (still_to_write after memory ≡ []) ⊎ (most_part_bytes < at + most_line_bytes)
      → PartIs first memory buffer (record { len = at; run = after }) buffer' t
  part_of {after} e i fit = record {
    the_bytes = put_as (sym so_far) w.put;
    the_rest = w.whole ∙ ap (λ (u : List ℕ). w.bytes ++ u) e ∙ ap (λ (u : List ℕ). u ++ still_to_write after memory) (sym so_far);
    all_that_fit = fit;
    goes_on = i;
  }

  -- the longest line has no room
  pub full : most_part_bytes - at < most_line_bytes → PartIs first memory buffer (record { len = at; run = run }) buffer' t₀
  full h = part_of refl w.is_run (inr (omega arith))

  module _ {line' : List ℕ} {step : Step} {t : Tables} (s : StepIs run memory line step line' t) where
    -- nothing is left
    pub ended : step.len ≡ 0 → PartIs first memory buffer (record { len = at; run = step.run }) buffer' t
    unfolding EmptyTextClaim
    ended e =
        let none : still_to_write run memory ≡ [] = (empty_text_claim run memory line step line' t s).0 e in
        let after : still_to_write step.run memory ≡ [] = no_elements (still_to_write step.run memory) (omega (arith, ap length s.the_rest, ap length none, length-append (next_line run memory) (still_to_write step.run memory))) in
        part_of (none ∙ sym after) s.goes_on (inl after)

    pub line_within : step.len ≤ length line'
    line_within = put_within s.the_line

    pub size : step.len ≡ length (take step.len line')
    size = taken_length line' line_within

    pub line_fits : length buffer' ≡ most_part_bytes → most_line_bytes ≤ most_part_bytes - at → at + length (take step.len line') ≤ length buffer'
    line_fits l h = omega (arith, size, s.the_line.within, w.room_for_a_line)

    -- one line more
    pub goes_on : {end : ℕ} {buffer'' : List ℕ} → most_line_bytes ≤ most_part_bytes - at → Put buffer' at (take step.len line') buffer'' end → Parting first memory buffer step.run end buffer'' line' t
    goes_on h p = record {
      bytes = w.bytes ++ take step.len line';
      put = then_put w.put p;
      whole =
          w.whole ∙ ap (λ (u : List ℕ). w.bytes ++ u) (s.the_rest ∙ ap (λ (u : List ℕ). u ++ still_to_write step.run memory) (sym (put_front s.the_line)))
          ∙ sym (append_assoc w.bytes (take step.len line') (still_to_write step.run memory));
      at_within = omega (arith, p.size, size, s.the_line.within, w.room_for_a_line, w.at_within);
      room_for_a_line = put_length s.the_line ∙ w.room_for_a_line;
      is_run = s.goes_on;
    }

    pub less_room : {end : ℕ} {buffer'' : List ℕ} → most_line_bytes ≤ most_part_bytes - at → ¬ (step.len ≡ 0) → Put buffer' at (take step.len line') buffer'' end → most_part_bytes - end < most_part_bytes - at
    less_room h some p = omega (arith, size, p.size)

-- after a part that is not empty less is left: the measure of a loop over the parts
pub less_after_part : {run : Run} {memory buffer buffer' : List ℕ} {part : Part} {t : Tables} → PartIs run memory buffer part buffer' t → ¬ (part.len ≡ 0) → length (still_to_write part.run memory) < length (still_to_write run memory)
less_after_part {memory = memory} {buffer' = buffer'} {part = part} p h = omega (arith, ap length p.the_rest, length-append (take part.len buffer') (still_to_write part.run memory), p.the_bytes.size)
