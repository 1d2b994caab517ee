-- LAWS. The text of a fleet, read back.
use mathlib.Core.Path.{◌≡◌, refl, sym, ap, ◌∙◌}
use mathlib.Core.Bool.{Bool, true, false}
use mathlib.Core.Logic.{inl, inr, ⊎_elim, ite, if_pos, if_neg}
use mathlib.Core.List.{List, [], ◌∷◌, ◌++◌, append_assoc, append-nil}
use Prim.Native.Nat.{ℕ, zero, suc, ◌+◌, ◌*◌, ◌/◌, ◌%◌, ◌≤◌, ◌<◌}
use native.Mathlib.Omega.{arith}
use native.Mathlib.Decide.{dec_lt, ℕ_discrete}
use lib.ListN.{length, length-append}
use Rattle.terms.specs.Fleet.{IsFleet}
use Rattle.terms.specs.Refusal.{refusal}
use Rattle.terms.proofs.Decide.{within?}
use Rattle.terms.proofs.RefusalLaws.{kept_on}
use Rattle.fleet.proofs.NodeLaws.{node_zero}
use Rattle.fleet.proofs.FleetGrowth.{fleet_grew, pair_whole}
use Rattle.text.specs.Text.{digit, full_stop, line_end, blank, decimal, pair_text}
use Rattle.text.proofs.TextLaws.{one_digit, two_digits}
use Rattle.token.specs.Token.{IsDigit, IsBlank, value, EndsPair, comment_sign, blank?, label?, after_blanks, after_comment, Front, pair_then, line_end_then, label_front, depth_front, line_over, front, token}
use Rattle.fleet_text.specs.FleetText.{parting, fleet_piece, fleet_pieces, fleet_text}
use Rattle.fleet_text.proofs.LengthLaws.{pair_length, moved, so_far, right, shallow}
use Rattle.sheet_text.specs.TextReading.{RootFirst, pair_rules, whole, at_end, unless_broken, take_token, read_text}

-- a byte that is no blank is not passed over
stays : (b : ℕ) (s : List ℕ) → ¬ IsBlank b → token (b ∷ s) ≡ front (b ∷ s)
unfolding token after_blanks
stays b s n = ap front (if_neg (blank? b) n (after_blanks s) (b ∷ s))

digit_token : (b : ℕ) (s : List ℕ) → IsDigit b → token (b ∷ s) ≡ depth_front (b ∷ s)
unfolding front
digit_token b s d =
    let low : 48 ≤ b = d.0 in
    stays b s (⊎_elim (λ e. omega arith) (⊎_elim (λ e. omega arith) (λ e. omega arith))) ∙ if_neg (ℕ_discrete b line_end) (λ e. omega arith) _ _ ∙ if_neg (ℕ_discrete b comment_sign) (λ e. omega arith) _ _

line_token : (s : List ℕ) → token (line_end ∷ s) ≡ line_end_then s
unfolding front
line_token s = stays line_end s (⊎_elim (λ e. omega arith) (⊎_elim (λ e. omega arith) (λ e. omega arith))) ∙ if_pos (ℕ_discrete line_end line_end) refl (line_end_then s) (ite (ℕ_discrete line_end comment_sign) (line_over (after_comment s)) (depth_front (line_end ∷ s)))

blank_token : (s : List ℕ) → token (blank ∷ s) ≡ token s
unfolding token after_blanks
blank_token s = ap front (if_pos (blank? blank) (inl refl) (after_blanks s) (blank ∷ s))

is_digit : (n : ℕ) → n < 10 → IsDigit (digit n)
is_digit n h = (omega arith, omega arith)

-- a pair's text is a pair
module _ (x : ℕ) (tail : List ℕ) (e : EndsPair tail) where
  abbrev label_digits : List ℕ
  label_digits = digit (x % 1000 / 100) ∷ digit (x % 1000 / 10 % 10) ∷ digit (x % 1000 % 10) ∷ tail

  abbrev label_text : List ℕ
  label_text = full_stop ∷ label_digits

  label_token : (depth : ℕ) → label_front depth label_text ≡ pair_then depth (x % 1000) tail
  unfolding label_front
  label_token depth =
      if_pos (label? full_stop (digit (x % 1000 / 100)) (digit (x % 1000 / 10 % 10)) (digit (x % 1000 % 10)) tail)
      (refl, (is_digit (x % 1000 / 100) (omega arith), (is_digit (x % 1000 / 10 % 10) (omega arith), (is_digit (x % 1000 % 10) (omega arith), e)))) _ _
      ∙ ap (λ (l : ℕ). pair_then depth l tail) (let z : 100 * value (digit (x % 1000 / 100)) + 10 * value (digit (x % 1000 / 10 % 10)) + value (digit (x % 1000 % 10)) ≡ x % 1000 = omega arith in z)

  depth_token : (d : ℕ) → d < 100 → token (decimal d ++ label_text) ≡ label_front d label_text
  unfolding depth_front
  depth_token d h = go (dec_lt d 10)
    where
      go : Dec (d < 10) → token (decimal d ++ label_text) ≡ label_front d label_text
      go (yes q) =
          ap (λ (s : List ℕ). token (s ++ label_text)) (one_digit d q) ∙ digit_token (digit d) label_text (is_digit d q)
          ∙ if_pos (within? 48 (digit d) 57) (is_digit d q) _ _ ∙ if_neg (within? 48 full_stop 57) (λ w. let k : 48 ≤ full_stop = w.0 in omega arith) (label_front (10 * value (digit d) + value full_stop) label_digits) (label_front (value (digit d)) label_text)
          ∙ ap (λ (n : ℕ). label_front n label_text) (let z : value (digit d) ≡ d = omega arith in z)
      go (no q) =
          let a : d / 10 < 10 = omega arith in
          let b : d % 10 < 10 = omega arith in
          ap (λ (s : List ℕ). token (s ++ label_text)) (two_digits d (omega arith) h) ∙ digit_token (digit (d / 10)) (digit (d % 10) ∷ label_text) (is_digit (d / 10) a)
          ∙ if_pos (within? 48 (digit (d / 10)) 57) (is_digit (d / 10) a) _ _ ∙ if_pos (within? 48 (digit (d % 10)) 57) (is_digit (d % 10) b) _ _
          ∙ ap (λ (n : ℕ). label_front n label_text) (let z : 10 * value (digit (d / 10)) + value (digit (d % 10)) ≡ d = omega arith in z)

  pair_token : x / 1000 < 100 → token (pair_text x ++ tail) ≡ pair_then (x / 1000) (x % 1000) tail
  unfolding pair_text
  pair_token h = ap token (append_assoc (decimal (x / 1000)) _ tail) ∙ depth_token (x / 1000) h ∙ label_token (x / 1000)

-- what stands behind a pair
ends_after : (rest : List ℕ) → EndsPair (fleet_pieces false rest ++ line_end ∷ [])
unfolding fleet_pieces fleet_piece parting
ends_after [] = inl refl
ends_after (x ∷ rest) = go (x / 1000)
  where
    go : (d : ℕ) → EndsPair ((parting d ∷ pair_text x ++ fleet_pieces false rest) ++ line_end ∷ [])
    go zero = inl refl
    go (suc d) = inr (inr (inl refl))

pieces_tail : (x : ℕ) (rest : List ℕ) → fleet_pieces false (x ∷ rest) ++ line_end ∷ [] ≡ parting (x / 1000) ∷ pair_text x ++ (fleet_pieces false rest ++ line_end ∷ [])
unfolding fleet_pieces fleet_piece
pieces_tail x rest = ap (λ (s : List ℕ). parting (x / 1000) ∷ s) (append_assoc (pair_text x) (fleet_pieces false rest) (line_end ∷ []))

-- a pair that continues a fleet breaks no rule
none_broken : (before : List ℕ) (first : Bool) (x : ℕ) → IsFleet (before ++ x ∷ []) → RootFirst first (x / 1000) → refusal (pair_rules first before (x / 1000) (x % 1000)) ≡ 0
unfolding pair_rules
none_broken before first x f r = kept_on _ _ r ∙ node_zero before (x / 1000) (x % 1000) (fleet_grew before x f).1

one_pair : (n line : ℕ) (before : List ℕ) (first : Bool) (x : ℕ) (text tail : List ℕ) → IsFleet (before ++ x ∷ []) → RootFirst first (x / 1000)
    → token text ≡ pair_then (x / 1000) (x % 1000) tail → read_text (suc n) line first before text ≡ read_text n line false (before ++ x ∷ []) tail
unfolding read_text take_token unless_broken
one_pair n line before first x text tail f r e = rw (e, none_broken before first x f r, pair_whole x) refl

one_line : (n line : ℕ) (before : List ℕ) (first : Bool) (s : List ℕ) → read_text (suc n) line first before (line_end ∷ s) ≡ read_text n (suc line) true before s
unfolding read_text take_token
one_line n line before first s = ap (λ (f : Front). take_token line first before f (read_text n)) (line_token s)

at_last : (n line : ℕ) (before : List ℕ) (first : Bool) → 1 ≤ length before → read_text (suc n) line first before [] ≡ whole before
unfolding read_text take_token at_end token front after_blanks
at_last n line [] first h = absurd (omega arith)
at_last n line (x ∷ before) first h = refl

-- one more pair of a fleet's text: a root after a line end, any other after a blank
one_piece : (before : List ℕ) (x : ℕ) (tail : List ℕ) (n line : ℕ) → IsFleet (before ++ x ∷ []) → x / 1000 < 100 → EndsPair tail
    → length (parting (x / 1000) ∷ pair_text x ++ tail) < n
    → (m : ℕ) × (line' : ℕ) × (length tail < m) × (read_text n line false before (parting (x / 1000) ∷ pair_text x ++ tail) ≡ read_text m line' false (before ++ x ∷ []) tail)
unfolding parting
one_piece before x tail n line f s e h = go (x / 1000) refl n h
  where
    size : length (pair_text x ++ tail) ≡ length (pair_text x) + length tail
    size = length-append (pair_text x) tail

    some : 1 ≤ length (pair_text x)
    some = (pair_length x s).0

    go : (d : ℕ) → x / 1000 ≡ d → (n : ℕ) → length (parting d ∷ pair_text x ++ tail) < n
        → (m : ℕ) × (line' : ℕ) × (length tail < m) × (read_text n line false before (parting d ∷ pair_text x ++ tail) ≡ read_text m line' false (before ++ x ∷ []) tail)
    go zero z zero q = absurd (omega arith)
    go zero z (suc zero) q = absurd (omega arith)
    go zero z (suc (suc k)) q =
        (k, suc line, omega (arith, size, some), one_line (suc k) line before false (pair_text x ++ tail) ∙ one_pair k (suc line) before true x (pair_text x ++ tail) tail f z (pair_token x tail e s))
    go (suc d) z zero q = absurd (omega arith)
    go (suc d) z (suc k) q =
        (k, line, omega (arith, size, some), one_pair k line before false x (blank ∷ pair_text x ++ tail) tail f (omega (arith, z)) (blank_token (pair_text x ++ tail) ∙ pair_token x tail e s))

read_rest : (rest before : List ℕ) (n line : ℕ) → 1 ≤ length before → IsFleet (before ++ rest) → length (fleet_pieces false rest ++ line_end ∷ []) < n
    → read_text n line false before (fleet_pieces false rest ++ line_end ∷ []) ≡ whole (before ++ rest)
unfolding fleet_pieces
read_rest [] before zero line some f h = absurd (omega arith)
read_rest [] before (suc zero) line some f h = absurd (omega arith)
read_rest [] before (suc (suc n)) line some f h = one_line (suc n) line before false [] ∙ at_last n (suc line) before true some ∙ ap whole (sym (append-nil before))
read_rest (x ∷ rest) before n line some f h =
    let p = one_piece before x (fleet_pieces false rest ++ line_end ∷ []) n line (so_far before rest x f) (shallow before rest x f) (ends_after rest) (rw (pieces_tail x rest) at h) in
    ap (λ (s : List ℕ). read_text n line false before s) (pieces_tail x rest) ∙ p.3
    ∙ read_rest rest (before ++ x ∷ []) p.0 p.1 (omega (arith, length-append before (x ∷ []))) (rw (moved before rest x f) f) p.2 ∙ ap whole (moved before rest x f)

pub read_back : (x : ℕ) (rest : List ℕ) (n : ℕ) → IsFleet (x ∷ rest) → length (fleet_text (x ∷ rest)) ≤ n → read_text (suc n) 1 true [] (fleet_text (x ∷ rest)) ≡ whole (x ∷ rest)
unfolding fleet_text fleet_pieces fleet_piece
read_back x rest n f h =
    let e : (pair_text x ++ fleet_pieces false rest) ++ line_end ∷ [] ≡ pair_text x ++ (fleet_pieces false rest ++ line_end ∷ []) = append_assoc (pair_text x) (fleet_pieces false rest) (line_end ∷ []) in
    ap (λ (s : List ℕ). read_text (suc n) 1 true [] s) e
    ∙ one_pair n 1 [] true x (pair_text x ++ (fleet_pieces false rest ++ line_end ∷ [])) (fleet_pieces false rest ++ line_end ∷ []) (so_far [] rest x f) ((right [] rest x f).rule5.0 refl) (pair_token x (fleet_pieces false rest ++ line_end ∷ []) (ends_after rest) (shallow [] rest x f))
    ∙ read_rest rest (x ∷ []) n 1 (omega arith) f (omega (arith, h, ap length e, length-append (pair_text x) (fleet_pieces false rest ++ line_end ∷ []), (pair_length x (shallow [] rest x f)).0))
