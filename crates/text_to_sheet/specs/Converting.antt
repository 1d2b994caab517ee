-- What the program makes of a text: its sheet, or the line that says where it goes wrong.
use Rattle.std.specs.Prelude.{List, [], ◌∷◌, ◌++◌, ℕ, ◌≤◌, length, drop}
use Rattle.std.proofs.Math.Decide.{ℕ_discrete}
use Rattle.std.proofs.Math.Logic.{ite}
use Rattle.writing.specs.Writing.{writing}
use Rattle.text.specs.Text.{decimal}
use Rattle.lines.specs.Lines.{refusal_line}
use Rattle.sheet_text.specs.TextReading.{TextReading, whole, stopped}
use Rattle.text_to_sheet.specs.declared.Converted.{Converted}
use Rattle.text_to_sheet.specs.declared.Converted.TheVariants.{Sheet, Wrong}

unfoldable pub converted_from : TextReading → Converted
converted_from (whole pairs) = Sheet (length (writing pairs))
converted_from (stopped line cause) = Wrong line cause

-- The sheet stands at the front, and what is past it is as it was; where the text is wrong, all is.
unfoldable pub sheet_after : TextReading → (sheet : List ℕ) → List ℕ
sheet_after (whole pairs) sheet = writing pairs ++ drop (length (writing pairs)) sheet
sheet_after (stopped line cause) sheet = sheet

-- There is room for the sheet of any text.
unfoldable pub SheetWithin : Converted → (most : ℕ) → Type 0
SheetWithin (Sheet size) most = size ≤ most
SheetWithin (Wrong line cause) most = Unit

-- "line "
abbrev pub line_word : List ℕ
line_word = 108 ∷ 105 ∷ 110 ∷ 101 ∷ 32 ∷ []

-- "no pair" and a line end
abbrev pub no_pair_line : List ℕ
no_pair_line = 110 ∷ 111 ∷ 32 ∷ 112 ∷ 97 ∷ 105 ∷ 114 ∷ 10 ∷ []

-- "text too long" and a line end
abbrev pub too_long_line : List ℕ
too_long_line = 116 ∷ 101 ∷ 120 ∷ 116 ∷ 32 ∷ 116 ∷ 111 ∷ 111 ∷ 32 ∷ 108 ∷ 111 ∷ 110 ∷ 103 ∷ 10 ∷ []

-- The causes 0 and 255 are the text's own (`text_reading`), the others refusals of a sheet.
unfoldable pub cause_line : (cause : ℕ) → List ℕ
unfolding ℕ_discrete
cause_line cause = ite (ℕ_discrete cause 0) no_pair_line (ite (ℕ_discrete cause 255) too_long_line (refusal_line cause))

-- "line", a blank, the number of the line, a colon, a blank, the cause.
unfoldable pub complaint_line : (line cause : ℕ) → List ℕ
unfolding cause_line
complaint_line line cause = line_word ++ decimal line ++ 58 ∷ 32 ∷ cause_line cause
