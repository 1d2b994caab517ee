-- LAWS. The words of the lines on a page, and of their first columns.
use mathlib.Core.Path.{◌≡◌, refl, sym, ap, ◌∙◌}
use mathlib.Core.List.{List, [], ◌∷◌, ◌++◌, append_assoc, append-nil, map}
use Prim.Native.Nat.{ℕ, ◌-◌, ◌≤◌}
use native.Mathlib.Omega.{arith}
use lib.ListN.{length, take, length-append, length-replicate}
use lib.Seq.{take_at}
use Rattle.text.specs.Text.{blank, decimal, pair_text, end_word}
use Rattle.paper.specs.Paper.{columns, support_columns, indent, field_columns, blanks, left_aligned, right_aligned, row, fields, first_line, second_line, Each, none, also, Of16Bits}
use Rattle.paper.proofs.RowLaws.{decimal_over, decimal_some, pair_over, pair_some, pair_most, right_length}
use Rattle.joining.specs.Joining.{pieces_on, words, ended}
use Rattle.joining.proofs.PieceLaws.{piece_then_some, separators_gone, separators_alone}

-- the words of fields, and what follows them
abbrev pub texts : List ℕ → List (List ℕ)
texts pairs = map pair_text pairs

fields_words : {pairs : List ℕ} (t : List ℕ) → Each Of16Bits pairs → words (fields pairs ++ t) ≡ texts pairs ++ words t
unfolding fields
fields_words t none = refl
fields_words t (also {x} {s} h hs) =
    ap words (append_assoc (left_aligned field_columns (pair_text x)) (fields s) t ∙ append_assoc (pair_text x) (blanks (field_columns - length (pair_text x))) (fields s ++ t))
    ∙ piece_then_some blank (pair_text x) (field_columns - length (pair_text x)) (fields s ++ t) (pair_some x) (omega (arith, pair_most x h)) (pair_over x)
    ∙ ap (λ (later : List (List ℕ)). pair_text x ∷ later) (fields_words t hs)

-- fields up to the end of a line
fields_row : (start : List ℕ) {pairs : List ℕ} (t : List ℕ) → Each Of16Bits pairs → words (fields pairs ++ (blanks (columns - length (start ++ fields pairs)) ++ t)) ≡ texts pairs ++ words t
fields_row start {pairs} t h =
    let pad : ℕ = columns - length (start ++ fields pairs) in
    fields_words (blanks pad ++ t) h ∙ ap (λ (later : List (List ℕ)). texts pairs ++ later) (separators_gone blank pad t)

row_parts : (start s t : List ℕ) → row (start ++ s) ++ t ≡ start ++ (s ++ (blanks (columns - length (start ++ s)) ++ t))
unfolding row
row_parts start s t =
    let pad : List ℕ = blanks (columns - length (start ++ s)) in
    append_assoc (start ++ s) pad t ∙ append_assoc start s (pad ++ t)

row_start : (start s : List ℕ) → length start ≡ indent → take indent (row (start ++ s)) ≡ start
unfolding row
row_start start s e =
    let pad : List ℕ = blanks (columns - length (start ++ s)) in
    ap (λ (r : List ℕ). take indent r) (append_assoc start s pad) ∙ take_at start (s ++ pad) indent e

-- a second line: the pairs are its words, and there are none in its first columns
pub second_words : {pairs : List ℕ} (t : List ℕ) → Each Of16Bits pairs → words (second_line pairs ++ t) ≡ texts pairs ++ words t
unfolding second_line
second_words {pairs} t h =
    ap words (row_parts (blanks indent) (fields pairs) t)
    ∙ separators_gone blank indent (fields pairs ++ (blanks (columns - length (blanks indent ++ fields pairs)) ++ t))
    ∙ fields_row (blanks indent) t h

pub second_start : (pairs : List ℕ) → words (take indent (second_line pairs)) ≡ []
unfolding second_line
second_start pairs = ap words (row_start (blanks indent) (fields pairs) (length-replicate indent blank)) ∙ separators_alone blank indent

-- a first line: the support and the pairs, and the support alone in its first columns
module _ (held : ℕ) where
  abbrev support : List ℕ
  support = right_aligned support_columns (decimal held)

  support_words : (t : List ℕ) → words (support ++ blanks 1 ++ t) ≡ decimal held ∷ words t
  support_words t =
      ap words (append_assoc support (blanks 1) t ∙ append_assoc (blanks (support_columns - length (decimal held))) (decimal held) (blanks 1 ++ t))
      ∙ separators_gone blank (support_columns - length (decimal held)) (decimal held ++ (blanks 1 ++ t))
      ∙ piece_then_some blank (decimal held) 1 t (decimal_some held) (omega arith) (decimal_over held)

  pub first_words : {pairs : List ℕ} (t : List ℕ) → Each Of16Bits pairs → words (first_line held pairs ++ t) ≡ decimal held ∷ (texts pairs ++ words t)
  unfolding first_line
  first_words {pairs} t h =
      ap words (row_parts (support ++ blanks 1) (fields pairs) t)
      ∙ support_words (fields pairs ++ (blanks (columns - length (support ++ blanks 1 ++ fields pairs)) ++ t))
      ∙ ap (λ (later : List (List ℕ)). decimal held ∷ later) (fields_row (support ++ blanks 1) t h)

  pub first_start : (pairs : List ℕ) → length (decimal held) ≤ support_columns → words (take indent (first_line held pairs)) ≡ decimal held ∷ []
  unfolding first_line pieces_on ended
  first_start pairs h =
      ap words (row_start (support ++ blanks 1) (fields pairs) (omega (arith, length-append support (blanks 1), right_length support_columns (decimal held) h)) ∙ sym (append-nil (support ++ blanks 1)))
      ∙ support_words []

-- blank lines, and `end`
pub blank_words : words (row []) ≡ []
unfolding row
blank_words = separators_alone blank columns

pub end_words : (t : List ℕ) → words (row end_word ++ t) ≡ end_word ∷ words t
unfolding row
end_words t =
    ap words (append_assoc end_word (blanks (columns - length end_word)) t)
    ∙ piece_then_some blank end_word (columns - length end_word) t (omega arith) (omega arith) (also (omega arith) (also (omega arith) (also (omega arith) none)))

pub end_start : 1 ≤ length (words (take indent (row end_word)))
unfolding row pieces_on ended
end_start = omega arith
