-- The claims about the lines of a form. Each is proved under its name in lower case, in proofs/Claims.
use Rattle.std.specs.Prelude.{◌≡◌, List, [], ℕ, ◌-◌, ◌≤◌, ◌<◌, length, drop}
use Rattle.text.specs.Text.{line_end, end_word}
use Rattle.paper.specs.Paper.{columns, pairs_a_line, margin, Line, blanks, row, form_lines, Each, HasRoom}

-- "Every line has exactly 72 columns and then a line end": 72 bytes, none of them a line end, nor anything below it.
pub record IsRow (line : Line) : Type 0 where
  pub wide : length line ≡ columns
  pub no_line_end : Each (λ b. line_end < b) line

-- So are the lines of a form.
unfoldable pub FormRowsClaim : Type 0
FormRowsClaim = (held : ℕ) (form : List ℕ) → HasRoom held form → Each IsRow (form_lines held form)

-- And `end` and a blank line.
unfoldable pub OtherRowsClaim : Type 0
OtherRowsClaim = IsRow (row end_word) × IsRow (row [])

-- "A form of more than eight pairs goes on to a second line", and no other does.
unfoldable pub LineCountClaim : Type 0
LineCountClaim = (held : ℕ) (form : List ℕ) → (length form ≤ pairs_a_line → length (form_lines held form) ≡ 1) × (pairs_a_line < length form → length (form_lines held form) ≡ 2)

-- "columns 68 to 72 are blank"
unfoldable pub MarginClaim : Type 0
MarginClaim = (held : ℕ) (form : List ℕ) → HasRoom held form → Each (λ line. drop (columns - margin) line ≡ blanks margin) (form_lines held form)
