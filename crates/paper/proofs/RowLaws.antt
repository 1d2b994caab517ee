-- LAWS. The bytes of numbers, pairs and fields; the lines of a form and of `end` have 72 columns, with no line end among them.
use mathlib.Core.Path.{◌≡◌, refl, sym, ap, ◌∙◌}
use mathlib.Core.List.{List, [], ◌∷◌, ◌++◌, append_assoc}
use Prim.Native.Nat.{ℕ, zero, suc, ◌+◌, ◌-◌, ◌*◌, ◌/◌, ◌%◌, ◌≤◌, ◌<◌}
use native.Mathlib.Omega.{arith}
use native.Mathlib.Decide.{dec_le}
use lib.ListN.{length, take, drop, length-append, length-replicate, length-take, length-drop}
use Rattle.text.specs.Text.{blank, full_stop, digit, unless_zero, digits, decimal, pair_text, line_end, end_word}
use Rattle.text.proofs.TextLaws.{five_bytes, six_bytes}
use Rattle.paper.specs.Paper.{columns, line_bytes, support_columns, indent, field_columns, pairs_a_line, Line, blanks, left_aligned, right_aligned, row, fields, first_line, second_line, further_lines, form_lines, blank_lines, bytes_of, Each, none, also, HasRoom, Of16Bits}
use Rattle.paper.specs.Claims.{IsRow}
use Rattle.paper.proofs.EachLaws.{Over, each_append, each_replicate, each_take, each_drop, each_as}

-- figures
unless_over : (n : ℕ) (s : List ℕ) → Over blank s → Over blank (unless_zero n s)
unfolding unless_zero
unless_over zero s h = none
unless_over (suc n) s h = h

digits_over : (most n : ℕ) → Over blank (digits most n)
unfolding digits
digits_over zero n = none
digits_over (suc most) n = each_append (unless_over (n / 10) (digits most (n / 10)) (digits_over most (n / 10))) (also (omega arith) none)

pub decimal_over : (n : ℕ) → Over blank (decimal n)
unfolding decimal
decimal_over n = digits_over (suc n) n

pub decimal_some : (n : ℕ) → 1 ≤ length (decimal n)
unfolding decimal digits
decimal_some n = omega (arith, length-append (unless_zero (n / 10) (digits n (n / 10))) (digit (n % 10) ∷ []))

pub pair_over : (x : ℕ) → Over blank (pair_text x)
unfolding pair_text
pair_over x = each_append (decimal_over (x / 1000)) (also (omega arith) (also (omega arith) (also (omega arith) (also (omega arith) none))))

pub pair_some : (x : ℕ) → 1 ≤ length (pair_text x)
unfolding pair_text
pair_some x = omega (arith, length-append (decimal (x / 1000)) (full_stop ∷ digit (x % 1000 / 100) ∷ digit (x % 1000 / 10 % 10) ∷ digit (x % 1000 % 10) ∷ []))

pub pair_most : (x : ℕ) → x < 65536 → length (pair_text x) ≤ 6
pair_most x h = at_most (dec_le 10000 x)
  where
    at_most : Dec (10000 ≤ x) → length (pair_text x) ≤ 6
    at_most (yes k) = omega (arith, six_bytes x k (omega arith))
    at_most (no n) = omega (arith, five_bytes x (omega arith))

-- from above the blank to above the line end
pub over_line_end : {s : List ℕ} → Over blank s → Over line_end s
over_line_end h = each_as (λ b k. omega arith) h

blanks_over : (n : ℕ) → Over line_end (blanks n)
blanks_over n = each_replicate n blank (omega arith)

-- parts of a line
pub left_length : (wide : ℕ) (s : List ℕ) → length s ≤ wide → length (left_aligned wide s) ≡ wide
left_length wide s h = omega (arith, length-append s (blanks (wide - length s)), length-replicate (wide - length s) blank)

pub right_length : (wide : ℕ) (s : List ℕ) → length s ≤ wide → length (right_aligned wide s) ≡ wide
right_length wide s h = omega (arith, length-append (blanks (wide - length s)) s, length-replicate (wide - length s) blank)

pub fields_length : {pairs : List ℕ} → Each Of16Bits pairs → length (fields pairs) ≡ field_columns * length pairs
unfolding fields
fields_length none = refl
fields_length (also {x} {s} h hs) =
    omega (arith, length-append (left_aligned field_columns (pair_text x)) (fields s), left_length field_columns (pair_text x) (omega (arith, pair_most x h)), fields_length hs)

fields_over : (pairs : List ℕ) → Over line_end (fields pairs)
unfolding fields
fields_over [] = none
fields_over (x ∷ pairs) = each_append (each_append (over_line_end (pair_over x)) (blanks_over (field_columns - length (pair_text x)))) (fields_over pairs)

-- lines
pub row_is : (s : List ℕ) → length s ≤ columns → Over line_end s → IsRow (row s)
unfolding row
row_is s h k = record { wide = left_length columns s h; no_line_end = each_append k (blanks_over (columns - length s)) }

module _ {pairs : List ℕ} (few : length pairs ≤ pairs_a_line) (small : Each Of16Bits pairs) where
  pub first_length : (held : ℕ) → length (decimal held) ≤ support_columns → length (right_aligned support_columns (decimal held) ++ blanks 1 ++ fields pairs) ≤ indent + field_columns * pairs_a_line
  first_length held h =
      let support : List ℕ = right_aligned support_columns (decimal held) in
      omega (arith, length-append (support ++ blanks 1) (fields pairs), length-append support (blanks 1), right_length support_columns (decimal held) h, fields_length small)

  pub first_is_row : (held : ℕ) → length (decimal held) ≤ support_columns → IsRow (first_line held pairs)
  unfolding first_line
  first_is_row held h =
      row_is (right_aligned support_columns (decimal held) ++ blanks 1 ++ fields pairs) (omega (arith, first_length held h))
      (each_append (each_append (each_append (blanks_over (support_columns - length (decimal held))) (over_line_end (decimal_over held))) (blanks_over 1)) (fields_over pairs))

  pub second_length : length (blanks indent ++ fields pairs) ≤ indent + field_columns * pairs_a_line
  second_length = omega (arith, length-append (blanks indent) (fields pairs), length-replicate indent blank, fields_length small)

  pub second_is_row : IsRow (second_line pairs)
  unfolding second_line
  second_is_row = row_is (blanks indent ++ fields pairs) (omega (arith, second_length)) (each_append (blanks_over indent) (fields_over pairs))

pub blank_is_row : IsRow (row [])
blank_is_row = row_is [] (omega arith) none

pub end_is_row : IsRow (row end_word)
end_is_row = row_is end_word (omega arith) (also (omega arith) (also (omega arith) (also (omega arith) none)))

-- what holds of a form's first line, and of a second with what is left, holds of each of its lines
goes_on_each : {P : Line → Type 0} (left : List ℕ) → P (second_line left) → Each P (further_lines left)
unfolding further_lines
goes_on_each [] h = none
goes_on_each (x ∷ left) h = also h none

pub form_each : {P : Line → Type 0} (held : ℕ) (form : List ℕ) → P (first_line held (take pairs_a_line form)) → P (second_line (drop pairs_a_line form)) → Each P (form_lines held form)
unfolding form_lines
form_each held form h k = also h (goes_on_each (drop pairs_a_line form) k)

pub first_few : (form : List ℕ) → length (take pairs_a_line form) ≤ pairs_a_line
first_few form = omega (arith, length-take pairs_a_line form)

pub left_few : (form : List ℕ) → length form ≤ 2 * pairs_a_line → length (drop pairs_a_line form) ≤ pairs_a_line
left_few form h = omega (arith, length-drop pairs_a_line form)

pub form_rows : (held : ℕ) (form : List ℕ) → HasRoom held form → Each IsRow (form_lines held form)
form_rows held form room =
    form_each held form
    (first_is_row (first_few form) (each_take pairs_a_line room.pairs_small) held room.support_fits)
    (second_is_row (left_few form room.two_lines) (each_drop pairs_a_line room.pairs_small))

-- a form has one line or two
goes_on_few : (left : List ℕ) → length (further_lines left) ≤ 1
unfolding further_lines
goes_on_few [] = omega arith
goes_on_few (x ∷ left) = omega arith

pub form_lines_few : (held : ℕ) (form : List ℕ) → (1 ≤ length (form_lines held form)) × (length (form_lines held form) ≤ 2)
unfolding form_lines
form_lines_few held form = (omega arith, omega (arith, goes_on_few (drop pairs_a_line form)))

-- the bytes of lines
pub bytes_append : (s t : List Line) → bytes_of (s ++ t) ≡ bytes_of s ++ bytes_of t
unfolding bytes_of
bytes_append [] t = refl
bytes_append (line ∷ s) t = ap (λ (u : List ℕ). line ++ line_end ∷ u) (bytes_append s t) ∙ sym (append_assoc line (line_end ∷ bytes_of s) (bytes_of t))

pub bytes_length : {lines : List Line} → Each IsRow lines → length (bytes_of lines) ≡ line_bytes * length lines
unfolding bytes_of
bytes_length none = refl
bytes_length (also {x = line} {s = later} h hs) = omega (arith, h.wide, length-append line (line_end ∷ bytes_of later), bytes_length hs)

pub blank_rows : (n : ℕ) → Each IsRow (blank_lines n)
blank_rows n = each_replicate n (row []) blank_is_row

pub blank_bytes : (n : ℕ) → length (bytes_of (blank_lines n)) ≡ line_bytes * n
blank_bytes n = omega (arith, bytes_length (blank_rows n), length-replicate n (row []))
