-- Document 02, "The key on a page": the paper, and the lines of a form on it. The numbers of the paper are stated here, once.
use Rattle.std.specs.Prelude.{List, [], ◌∷◌, ◌++◌, ℕ, ◌+◌, ◌-◌, ◌*◌, ◌≤◌, ◌<◌, length, take, drop, replicate}
use Rattle.text.specs.Text.{blank, line_end, end_word, decimal, pair_text}

-- "pages of 72 columns and 54 lines"
abbrev pub columns : ℕ
columns = 72

abbrev pub page_lines : ℕ
page_lines = 54

-- "Every line has exactly 72 columns and then a line end, every page 54 lines": the bytes of a line and of a page.
abbrev pub line_bytes : ℕ
line_bytes = columns + 1

abbrev pub page_bytes : ℕ
page_bytes = page_lines * line_bytes

-- "Columns 1 to 2 hold the support"; "column 3 is blank": the columns before the first field.
abbrev pub support_columns : ℕ
support_columns = 2

abbrev pub indent : ℕ
indent = support_columns + 1

-- "fields of eight columns", "eight to a line"; "columns 68 to 72 are blank": those after the last field.
abbrev pub field_columns : ℕ
field_columns = 8

abbrev pub pairs_a_line : ℕ
pairs_a_line = 8

abbrev pub margin : ℕ
margin = columns - (indent + field_columns * pairs_a_line)

-- The bytes of a line, its end left out. Lines that stay together on a page, those of a form or that of `end`, are a block.
abbrev pub Line : Type 0
Line = List ℕ

abbrev pub Block : Type 0
Block = List Line

abbrev pub blanks : ℕ → List ℕ
blanks n = replicate n blank

abbrev pub left_aligned : (wide : ℕ) → List ℕ → List ℕ
left_aligned wide s = s ++ blanks (wide - length s)

abbrev pub right_aligned : (wide : ℕ) → List ℕ → List ℕ
right_aligned wide s = blanks (wide - length s) ++ s

-- "Every line has exactly 72 columns": what stands on it, and blanks.
unfoldable pub row : List ℕ → Line
row s = left_aligned columns s

-- "pairs follow in fields of eight columns, left-aligned"
unfoldable pub fields : List ℕ → List ℕ
fields [] = []
fields (x ∷ pairs) = left_aligned field_columns (pair_text x) ++ fields pairs

-- "Columns 1 to 2 hold the support, right-aligned; column 3 is blank; pairs follow"
unfoldable pub first_line : (held : ℕ) (pairs : List ℕ) → Line
first_line held pairs = row (right_aligned support_columns (decimal held) ++ blanks 1 ++ fields pairs)

-- "a second line whose first three columns are blank"
unfoldable pub second_line : (pairs : List ℕ) → Line
second_line pairs = row (blanks indent ++ fields pairs)

-- "A form of more than eight pairs goes on to a second line": of the pairs that are left, if any.
unfoldable pub further_lines : (left : List ℕ) → Block
further_lines [] = []
further_lines (x ∷ left) = second_line (x ∷ left) ∷ []

-- The lines of a form with its support: "eight to a line".
unfoldable pub form_lines : (held : ℕ) (form : List ℕ) → Block
form_lines held form = first_line held (take pairs_a_line form) ∷ further_lines (drop pairs_a_line form)

-- "The line `end` comes after the forms, from column 1"
abbrev pub end_block : Block
end_block = row end_word ∷ []

abbrev pub blank_lines : ℕ → Block
blank_lines n = replicate n (row [])

-- "72 columns and then a line end"
unfoldable pub bytes_of : List Line → List ℕ
bytes_of [] = []
bytes_of (line ∷ later) = line ++ line_end ∷ bytes_of later

-- What holds of each of some things.
pub data Each {A : Type 0} (P : A → Type 0) : List A → Type 0 where
  none : Each P []
  also : {x : A} {s : List A} → P x → Each P s → Each P (x ∷ s)

-- A number of 16 bits, as every pair is.
abbrev pub Of16Bits : ℕ → Type 0
Of16Bits x = x < 65536

-- A form and a support for which the paper has room: the support fits its columns, and at most two lines hold the pairs.
pub record HasRoom (held : ℕ) (form : List ℕ) : Type 0 where
  pub support_fits : length (decimal held) ≤ support_columns
  pub pairs_small : Each Of16Bits form
  pub two_lines : length form ≤ 2 * pairs_a_line
