-- Document 02, "The key on a page": "With second lines joined on and spare blanks and blank lines gone".
use Rattle.std.proofs.Math.Logic.{ite}
use Rattle.std.specs.Prelude.{List, [], ◌∷◌, ◌++◌, ℕ, take}
use Rattle.std.proofs.Math.Decide.{ℕ_discrete}
use Rattle.text.specs.Text.{blank, line_end}
use Rattle.paper.specs.Paper.{Line, indent}

-- The pieces of a text between separators, none of them empty: `piece` is the beginning of the first.
unfoldable pub ended : (piece : List ℕ) → (later : List (List ℕ)) → List (List ℕ)
ended [] later = later
ended (b ∷ piece) later = (b ∷ piece) ∷ later

unfoldable pub pieces_on : (separator : ℕ) (piece : List ℕ) → List ℕ → List (List ℕ)
unfolding ℕ_discrete
pieces_on separator piece [] = ended piece []
pieces_on separator piece (b ∷ text) = ite (ℕ_discrete b separator) (ended piece (pieces_on separator [] text)) (pieces_on separator (piece ++ b ∷ []) text)

-- The lines of a text that are not empty, and the words of a line.
abbrev pub lines_in : List ℕ → List Line
lines_in text = pieces_on line_end [] text

abbrev pub words : Line → List (List ℕ)
words line = pieces_on blank [] line

-- One thing where there are no words, another where there are some.
module _ {A : Type 0} where
  unfoldable pub if_none : List (List ℕ) → A → A → A
  if_none [] none some = none
  if_none (word ∷ later) none some = some

-- "blank lines gone"
unfoldable pub without_blank_lines : List Line → List Line
unfolding if_none
without_blank_lines [] = []
without_blank_lines (line ∷ later) = if_none (words line) (without_blank_lines later) (line ∷ without_blank_lines later)

-- "second lines joined on": those whose first columns are blank, to the line before.
unfoldable pub joined_on : Line → List Line → List Line
unfolding if_none
joined_on line [] = line ∷ []
joined_on line (next ∷ later) = if_none (words (take indent next)) (joined_on (line ++ next) later) (line ∷ joined_on next later)

unfoldable pub second_lines_joined : List Line → List Line
second_lines_joined [] = []
second_lines_joined (line ∷ later) = joined_on line later

-- "spare blanks .. gone": a line's words, one blank between two.
unfoldable pub each_after_a_blank : List (List ℕ) → List ℕ
each_after_a_blank [] = []
each_after_a_blank (word ∷ later) = blank ∷ word ++ each_after_a_blank later

unfoldable pub parted : List (List ℕ) → List ℕ
parted [] = []
parted (word ∷ later) = word ++ each_after_a_blank later

unfoldable pub without_spare_blanks : List Line → List ℕ
without_spare_blanks [] = []
without_spare_blanks (line ∷ later) = (parted (words line) ++ line_end ∷ []) ++ without_spare_blanks later

-- All three.
unfoldable pub joined : List ℕ → List ℕ
joined text = without_spare_blanks (second_lines_joined (without_blank_lines (lines_in text)))
