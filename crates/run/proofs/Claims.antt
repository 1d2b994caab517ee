-- The claims of specs/Claims, proved.
use mathlib.Core.Path.{◌≡◌, refl, sym, ap, ◌∙◌}
use mathlib.Core.List.{List, [], ◌∷◌, ◌++◌, append_assoc, append-nil}
use mathlib.Core.Logic.{⊎_elim}
use Prim.Native.Nat.{ℕ}
use native.Mathlib.Omega.{arith}
use lib.ListN.{length, take, length-append}
use Rattle.text.specs.Text.{decimal, line_end}
use Rattle.text.proofs.TextLaws.{no_elements, put_front}
use Rattle.lines.specs.Lines.{pairs_text, form_line, refusal_line}
use Rattle.expansion.specs.Levels.{Tables}
use Rattle.search.specs.Counted.{Entry}
use Rattle.search.specs.Search.{pairs_of}
use Rattle.entries.specs.Entries.{rest_of}
use Rattle.run.specs.Running.{run_search, written_from, still_to_write, line_from, next_line, StepIs, PartIs}
use Rattle.run.specs.Claims.{Gives, nothing_yet, a_line, EmptyTextClaim, GivesParts, no_part_yet, a_part, EmptyPartClaim}
use Rattle.run.specs.declared.Stage.{Stage}
use Rattle.run.specs.declared.Stage.TheVariants.{Refusing, Listing, Ended}
use Rattle.run.specs.declared.Run.{Run}
use Rattle.run.specs.declared.Step.{Step}
use Rattle.run.specs.declared.Part.{Part}

-- the line of a step stands in front
line_given : {run : Run} {memory line line' : List ℕ} {step : Step} {t : Tables} → StepIs run memory line step line' t → take step.len line' ≡ next_line run memory
line_given s = put_front s.the_line

pub gives_beginning : {memory : List ℕ} {run after : Run} {given : List ℕ} → Gives memory run given after → given ++ still_to_write after memory ≡ still_to_write run memory
gives_beginning nothing_yet = refl
gives_beginning {memory} {run} {after} (a_line {step = step} {later = later} {line' = line'} s g) =
    append_assoc (take step.len line') later (still_to_write after memory)
    ∙ ap (λ (u : List ℕ). take step.len line' ++ u) (gives_beginning g)
    ∙ ap (λ (u : List ℕ). u ++ still_to_write step.run memory) (line_given s)
    ∙ sym s.the_rest

-- a line has at least its line end
empty_line : (stage : Stage) (left : List Entry) → length (line_from stage left) ≡ 0 → written_from stage left ≡ []
unfolding line_from written_from refusal_line form_line
empty_line (Refusing number) left e = absurd (omega arith)
empty_line Listing [] e = absurd (omega arith)
empty_line Listing (entry ∷ left) e = absurd (omega (arith, length-append (decimal entry.held ++ pairs_text entry.form) (line_end ∷ [])))
empty_line Ended left e = refl

nothing_left : (run : Run) (memory : List ℕ) → length (next_line run memory) ≡ 0 → still_to_write run memory ≡ []
unfolding next_line still_to_write
nothing_left run memory e = empty_line run.stage (rest_of (run_search run memory) (pairs_of run.pattern)) e

pub empty_text_claim : EmptyTextClaim
unfolding EmptyTextClaim
empty_text_claim run memory line step line' t s = (
  (λ e. nothing_left run memory (omega (arith, s.the_line.size))),
  (λ e. omega (arith, s.the_line.size, ap length s.the_rest, ap length e, length-append (next_line run memory) (still_to_write step.run memory))),
)

pub parts_beginning : {memory : List ℕ} {run after : Run} {given : List ℕ} → GivesParts memory run given after → given ++ still_to_write after memory ≡ still_to_write run memory
parts_beginning no_part_yet = refl
parts_beginning {memory} {run} {after} (a_part {part = part} {later = later} {buffer' = buffer'} p g) =
    append_assoc (take part.len buffer') later (still_to_write after memory)
    ∙ ap (λ (u : List ℕ). take part.len buffer' ++ u) (parts_beginning g)
    ∙ sym p.the_rest

-- one part more
pub parts_on : {memory : List ℕ} {run after : Run} {part : Part} {given buffer buffer' : List ℕ} {t : Tables} → GivesParts memory run given after → PartIs after memory buffer part buffer' t → GivesParts memory run (given ++ take part.len buffer') part.run
parts_on {part = part} {buffer' = buffer'} no_part_yet p = rw (sym (append-nil (take part.len buffer'))) (a_part p no_part_yet)
parts_on {part = part} {buffer' = buffer'} (a_part {part = first} {later = later} {buffer' = other} f g) p = rw (append_assoc (take first.len other) later (take part.len buffer')) (a_part f (parts_on g p))

pub empty_part_claim : EmptyPartClaim
unfolding EmptyPartClaim
empty_part_claim run memory buffer part buffer' t p =
    let whole = ap length p.the_rest ∙ length-append (take part.len buffer') (still_to_write part.run memory) in (
      (λ e. no_elements (still_to_write run memory) (omega (arith, whole, p.the_bytes.size, ⊎_elim {C = length (still_to_write part.run memory) ≡ 0} (λ z. ap length z) (λ z. absurd (omega arith)) p.all_that_fit))),
      (λ e. omega (arith, whole, p.the_bytes.size, ap length e)),
    )
