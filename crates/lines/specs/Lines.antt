-- Document 01, "The list", the key program: the bytes (ASCII) of its lines, and how many they may be.
use Rattle.std.specs.Prelude.{List, [], ◌∷◌, ◌++◌, ℕ, ◌+◌, ◌*◌}
use Rattle.text.specs.Text.{line_end, blank, end_word, decimal, pair_text}
use Rattle.text.specs.Building.{most_digits, most_pair_bytes}

-- Pairs, each after a blank.
unfoldable pub pairs_text : List ℕ → List ℕ
pairs_text [] = []
pairs_text (x ∷ pairs) = blank ∷ pair_text x ++ pairs_text pairs

-- "one line a form: support, blank, pairs parted by blanks"
unfoldable pub form_line : (held : ℕ) (form : List ℕ) → List ℕ
form_line held form = decimal held ++ pairs_text form ++ line_end ∷ []

-- "the word refused, a blank"
abbrev pub refused_word : List ℕ
refused_word = 114 ∷ 101 ∷ 102 ∷ 117 ∷ 115 ∷ 101 ∷ 100 ∷ 32 ∷ []

-- "the word refused, a blank, the number and a line end"
unfoldable pub refusal_line : (number : ℕ) → List ℕ
refusal_line number = refused_word ++ decimal number ++ line_end ∷ []

-- "then the line `end`"
abbrev pub end_line : List ℕ
end_line = end_word ++ line_end ∷ []

-- The most pairs of a line: those of the largest pattern ("1 to 16").
abbrev pub most_line_pairs : ℕ
most_line_pairs = 16

-- The most bytes of a line: a number, the pairs, each after a blank, and the line end.
abbrev pub most_line_bytes : ℕ
most_line_bytes = most_digits + most_line_pairs * (1 + most_pair_bytes) + 1
