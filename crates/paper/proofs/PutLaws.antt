-- LAWS. What the functions put: blanks, a support, fields, whole lines; and how many lines a form has.
use mathlib.Core.Path.{◌≡◌, refl, sym, ap, ◌∙◌}
use mathlib.Core.List.{List, [], ◌∷◌, ◌++◌, append_assoc, append-nil}
use Prim.Native.Nat.{ℕ, ◌+◌, ◌-◌, ◌*◌, ◌/◌, ◌%◌, ◌≤◌, ◌<◌}
use native.Mathlib.Omega.{arith}
use lib.ListN.{length, take, drop, get_or, length-append, length-drop, replicate-append-replicate}
use lib.Seq.{take_all}
use Rattle.std.proofs.lemmas.List.{take_more}
use mir.Syntax.{w64}
use mir.Val.{Fits}
use Rattle.text.specs.Text.{blank, digit, decimal, pair_text, line_end, end_word}
use Rattle.text.specs.Building.{Put}
use Rattle.text.proofs.TextLaws.{one_digit, more_digits, number_length, put_none, put_as, then_put, put_length, put_within}
use Rattle.paper.specs.Paper.{columns, line_bytes, indent, support_columns, field_columns, pairs_a_line, Block, blanks, left_aligned, right_aligned, row, fields, first_line, second_line, further_lines, form_lines, end_block, blank_lines, bytes_of}
use Rattle.paper.proofs.RowLaws.{right_length, form_lines_few, bytes_append}

-- digits counted
pub one_counted : (n : ℕ) → n < 10 → 1 ≡ length (decimal n)
one_counted n h = sym (ap length (one_digit n h))

module _ (n : ℕ) {d : ℕ} (counted : d ≡ length (decimal (n / 10))) where
  pub more_counted : 10 ≤ n → d + 1 ≡ length (decimal n)
  more_counted h = omega (arith, ap length (more_digits n h), length-append (decimal (n / 10)) (digit (n % 10) ∷ []))

  pub count_fits : n < 18446744073709551616 → Fits w64 (d + 1)
  count_fits h = omega (arith, number_length (n / 10) (omega arith))

-- how many lines a form has
goes_on_some : (left : List ℕ) → 1 ≤ length left → further_lines left ≡ second_line left ∷ []
unfolding further_lines
goes_on_some [] h = absurd (omega arith)
goes_on_some (x ∷ left) h = refl

goes_on_none : (left : List ℕ) → length left ≤ 0 → further_lines left ≡ []
unfolding further_lines
goes_on_none [] h = refl
goes_on_none (x ∷ left) h = absurd (omega arith)

module _ (form : List ℕ) where
  two_lines : pairs_a_line < length form → (held : ℕ) → form_lines held form ≡ first_line held (take pairs_a_line form) ∷ second_line (drop pairs_a_line form) ∷ []
  unfolding form_lines
  two_lines h held = ap (λ (s : Block). first_line held (take pairs_a_line form) ∷ s) (goes_on_some (drop pairs_a_line form) (simp length-drop (omega arith)))

  pub size_two : pairs_a_line < length form → (held : ℕ) → 2 ≡ length (form_lines held form)
  size_two h held = sym (ap length (two_lines h held))

  one_line : length form ≤ pairs_a_line → (held : ℕ) → form_lines held form ≡ first_line held form ∷ []
  unfolding form_lines
  one_line h held =
      ap (λ (s : Block). first_line held (take pairs_a_line form) ∷ s) (goes_on_none (drop pairs_a_line form) (simp length-drop (omega arith)))
      ∙ ap (λ (s : List ℕ). first_line held s ∷ []) (take_all pairs_a_line form h)

  pub size_one : length form ≤ pairs_a_line → (held : ℕ) → 1 ≡ length (form_lines held form)
  size_one h held = sym (ap length (one_line h held))

-- a support: its number stands right behind the blanks
module _ (held : ℕ) {a b c : List ℕ} {at i j k d to : ℕ} (count : d ≡ length (decimal held)) (fits : length (decimal held) ≤ support_columns) (wide : to ≡ at + (support_columns - d)) (next : j ≡ i) (p : Put a at (blanks (to - at)) b i) (q : Put b j (decimal held) c k) where
  pub support_put : Put a at (right_aligned support_columns (decimal held)) c k
  support_put =
      let e : to - at ≡ support_columns - length (decimal held) = omega arith in
      put_as (ap (λ (n : ℕ). blanks n ++ decimal held) e) (then_put p (rw next at q))

  pub support_end : k ≡ at + support_columns
  support_end = omega (arith, support_put.size, right_length support_columns (decimal held) fits)

-- pairs in their fields, one after the other
fields_append : (s t : List ℕ) → fields (s ++ t) ≡ fields s ++ fields t
unfolding fields
fields_append [] t = refl
fields_append (x ∷ s) t = ap (λ (u : List ℕ). left_aligned field_columns (pair_text x) ++ u) (fields_append s t) ∙ sym (append_assoc (left_aligned field_columns (pair_text x)) (fields s) (fields t))

pub no_field_yet : (a : List ℕ) (i : ℕ) → i ≤ length a → Put a i (fields []) a i
unfolding fields
no_field_yet a i h = put_none a i h

pub one_more_field : {a b c d : List ℕ} {j k l m to : ℕ} (s : List ℕ) (i : ℕ) → i < length s → to ≡ k + field_columns → Put a j (fields (take i s)) b k → Put b k (pair_text (get_or s i 0)) c l → Put c l (blanks (to - l)) d m
    → Put a j (fields (take (i + 1) s)) d m
unfolding fields
one_more_field {k = k} {l = l} {to = to} s i h wide p q r =
    let e : to - l ≡ field_columns - length (pair_text (get_or s i 0)) = omega (arith, q.size) in
    put_as
    (ap (λ (u : List ℕ). fields (take i s) ++ u) (sym (append-nil (left_aligned field_columns (pair_text (get_or s i 0))))) ∙ sym (fields_append (take i s) (get_or s i 0 ∷ [])) ∙ ap fields (sym (take_more s i 0 h)))
    (then_put p (then_put q (put_as (ap blanks e) r)))

-- the rest of a line
pub rest_put : (start : ℕ) {a b c : List ℕ} {at i j to : ℕ} → to ≡ start + columns → Put a at (blanks (to - at)) b i → Put b i (line_end ∷ []) c j → Put a at (blanks (start + columns - at) ++ line_end ∷ []) c j
rest_put start {at = at} e p q = put_as (ap (λ (n : ℕ). blanks (n - at) ++ line_end ∷ []) e) (then_put p q)

-- whole lines
row_put : {a b c s : List ℕ} {at i j : ℕ} → Put a at s b i → Put b i (blanks (at + columns - i) ++ line_end ∷ []) c j → Put a at (row s ++ line_end ∷ []) c j
unfolding row
row_put {s = s} {at = at} {i = i} p q =
    let e : at + columns - i ≡ columns - length s = omega (arith, p.size) in
    put_as (ap (λ (n : ℕ). s ++ (blanks n ++ line_end ∷ [])) e ∙ sym (append_assoc s (blanks (columns - length s)) (line_end ∷ []))) (then_put p q)

pub first_put : {a b c d e : List ℕ} {at i j k l byte : ℕ} (held : ℕ) (pairs : List ℕ) → byte ≡ blank → Put a at (right_aligned support_columns (decimal held)) b i → Put b i (byte ∷ []) c j → Put c j (fields pairs) d k
    → Put d k (blanks (at + columns - k) ++ line_end ∷ []) e l → Put a at (first_line held pairs ++ line_end ∷ []) e l
unfolding first_line
first_put held pairs n p q r s = row_put (then_put (then_put p (put_as (ap (λ (x : ℕ). x ∷ []) n) q)) r) s

pub second_put : {a b c d : List ℕ} {at i j k to : ℕ} (pairs : List ℕ) → to ≡ at + indent → Put a at (blanks (to - at)) b i → Put b i (fields pairs) c j → Put c j (blanks (at + columns - j) ++ line_end ∷ []) d k
    → Put a at (second_line pairs ++ line_end ∷ []) d k
unfolding second_line
second_put {at = at} {to = to} pairs e p q r =
    let f : to - at ≡ indent = omega arith in
    row_put (then_put (put_as (ap blanks f) p) q) r

pub end_put : {a b c s : List ℕ} {at i j : ℕ} → s ≡ end_word → Put a at s b i → Put b i (blanks (at + columns - i) ++ line_end ∷ []) c j → Put a at (bytes_of end_block) c j
unfolding bytes_of
end_put e p q = row_put (put_as e p) q

-- blank lines, one after the other
pub no_line_yet : (a : List ℕ) (i : ℕ) → i ≤ length a → Put a i (bytes_of (blank_lines 0)) a i
unfolding bytes_of
no_line_yet a i h = put_none a i h

pub one_more_line : {a b c : List ℕ} {at j k : ℕ} (i : ℕ) → Put a at (bytes_of (blank_lines i)) b j → Put b j (blanks (j + columns - j) ++ line_end ∷ []) c k → Put a at (bytes_of (blank_lines (i + 1))) c k
unfolding bytes_of
one_more_line {b = b} {j = j} i p q =
    put_as (sym (bytes_append (blank_lines i) (row [] ∷ [])) ∙ ap bytes_of (replicate-append-replicate i 1 (row []))) (then_put p (row_put (put_none b j (put_within p)) q))

-- the lines of a form
pub second_part : (form : List ℕ) → take (length form - pairs_a_line) (drop pairs_a_line form) ≡ drop pairs_a_line form
second_part form = take_all (length form - pairs_a_line) (drop pairs_a_line form) (simp length-drop (omega arith))

module _ (held : ℕ) (form : List ℕ) where
  pub first_room : (at : ℕ) {room : ℕ} → at + line_bytes * length (form_lines held form) ≤ room → at + line_bytes ≤ room
  first_room at h = omega (arith, (form_lines_few held form).0)

  pub second_room : {a b s : List ℕ} {at next : ℕ} → pairs_a_line < length form → next ≡ at + line_bytes → at + line_bytes * length (form_lines held form) ≤ length a → Put a at s b next → next + line_bytes ≤ length b
  second_room h e room p = omega (arith, size_two form h held, put_length p)

  pub two_put : {a b c s t : List ℕ} {at i j : ℕ} → pairs_a_line < length form → s ≡ take pairs_a_line form → t ≡ drop pairs_a_line form → Put a at (first_line held s ++ line_end ∷ []) b i
      → Put b i (second_line t ++ line_end ∷ []) c j → Put a at (bytes_of (form_lines held form)) c j
  unfolding bytes_of
  two_put {s = s} {t = t} h e f p q =
      put_as
      (append_assoc (first_line held s) (line_end ∷ []) (second_line t ++ line_end ∷ [])
      ∙ ap (λ (u : List ℕ). bytes_of (first_line held u ∷ second_line t ∷ [])) e
      ∙ ap (λ (u : List ℕ). bytes_of (first_line held (take pairs_a_line form) ∷ second_line u ∷ [])) f
      ∙ ap bytes_of (sym (two_lines form h held)))
      (then_put p q)

  pub one_put : {a b : List ℕ} {at i : ℕ} → length form ≤ pairs_a_line → Put a at (first_line held form ++ line_end ∷ []) b i → Put a at (bytes_of (form_lines held form)) b i
  unfolding bytes_of
  one_put h p = put_as (ap bytes_of (sym (one_line form h held))) p
