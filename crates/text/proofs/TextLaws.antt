-- LAWS. Numbers digit by digit, and how long they are; how long a pair is; bytes put in lent memory one after the other.
use mathlib.Core.Path.{◌≡◌, refl, sym, ap, ◌∙◌}
use mathlib.Core.List.{List, [], ◌∷◌, ◌++◌, append_assoc, append-nil}
use Prim.Native.Nat.{ℕ, zero, suc, ◌+◌, ◌*◌, ◌/◌, ◌%◌, ◌-◌, ◌≤◌, ◌<◌}
use native.Mathlib.Omega.{arith}
use mir.Syntax.{w16}
use mir.Val.{Fits}
use borrow.Rule.Slice.PartMut.{put_mid}
use lib.ListN.{length, take, drop, set, length-append, length-drop, take-append-drop}
use lib.Seq.{take_at, drop-append-add, drop-drop, set_split, length-take-le}
use Rattle.text.specs.Text.{digit, unless_zero, full_stop, digits, decimal, pair_text}
use Rattle.text.specs.Building.{most_digits, most_pair_bytes, Put}

pub no_elements : (s : List ℕ) → length s ≡ 0 → s ≡ []
no_elements [] e = refl
no_elements (x ∷ s) e = absurd (omega arith)

unless_some : (n : ℕ) (s : List ℕ) → 1 ≤ n → unless_zero n s ≡ s
unfolding unless_zero
unless_some zero s h = absurd (omega arith)
unless_some (suc n) s h = refl

pub one_digit : (n : ℕ) → n < 10 → decimal n ≡ digit n ∷ []
unfolding decimal digits unless_zero
one_digit n h =
    let z : n / 10 ≡ 0 = omega arith in
    let m : n % 10 ≡ n = omega arith in
    rw (z, m)

digits_one : (most n : ℕ) → n < 10 → digits (suc most) n ≡ digit n ∷ []
unfolding digits unless_zero
digits_one most n h =
    let z : n / 10 ≡ 0 = omega arith in
    let m : n % 10 ≡ n = omega arith in
    rw (z, m)

pub two_digits : (n : ℕ) → 10 ≤ n → n < 100 → decimal n ≡ digit (n / 10) ∷ digit (n % 10) ∷ []
unfolding decimal digits
two_digits zero h k = absurd (omega arith)
two_digits (suc n) h k =
    let a : 1 ≤ suc n / 10 = omega arith in
    ap (λ (s : List ℕ). s ++ digit (suc n % 10) ∷ []) (unless_some (suc n / 10) (digits (suc n) (suc n / 10)) a ∙ digits_one n (suc n / 10) (omega arith))

-- the digits are the same whatever is left for more of them
digits_same : (most other n : ℕ) → n < most → n < other → digits most n ≡ digits other n
unfolding digits unless_zero
digits_same zero other n h k = absurd (omega arith)
digits_same (suc most) zero n h k = absurd (omega arith)
digits_same (suc most) (suc other) n h k = ap (λ (s : List ℕ). s ++ digit (n % 10) ∷ []) (front (n / 10) (omega arith) (λ q l m. digits_same most other q l m))
  where
    front : (q : ℕ) → q ≤ n / 10 → ((p : ℕ) → p < most → p < other → digits most p ≡ digits other p) → unless_zero q (digits most q) ≡ unless_zero q (digits other q)
    front zero l same = refl
    front (suc q) l same = same (suc q) (omega arith) (omega arith)

-- the digits before the last are those of the tenth part
pub more_digits : (n : ℕ) → 10 ≤ n → decimal n ≡ decimal (n / 10) ++ digit (n % 10) ∷ []
unfolding decimal digits
more_digits n h = ap (λ (s : List ℕ). s ++ digit (n % 10) ∷ []) (unless_some (n / 10) (digits n (n / 10)) (omega arith) ∙ digits_same n (suc (n / 10)) (n / 10) (omega arith) (omega arith))

-- a number below 10, 100, 1000, .. has one digit, two, three, ..
abbrev pub tens : ℕ → ℕ
tens zero = 10
tens (suc more) = 10 * tens more

digits_length : (more most n : ℕ) → n < tens more → length (digits most n) ≤ suc more
unfolding digits unless_zero
digits_length more zero n h = omega arith
digits_length zero (suc most) n h = let z : n / 10 ≡ 0 = omega arith in rw z (omega arith)
digits_length (suc more) (suc most) n h = omega (arith, length-append (unless_zero (n / 10) (digits most (n / 10))) (digit (n % 10) ∷ []), front (n / 10) (digits_length more most (n / 10) (omega arith)))
  where
    front : (q : ℕ) → length (digits most q) ≤ suc more → length (unless_zero q (digits most q)) ≤ suc more
    front zero l = omega arith
    front (suc q) l = l

pub decimal_length : (n more : ℕ) → n < tens more → length (decimal n) ≤ suc more
unfolding decimal
decimal_length n more h = digits_length more (suc n) n h

pub number_length : (n : ℕ) → n < 18446744073709551616 → length (decimal n) ≤ most_digits
number_length n h = decimal_length n 19 (omega arith)

-- how many bytes a pair has
module _ (x : ℕ) where
  pair_length : length (pair_text x) ≡ length (decimal (x / 1000)) + 4
  unfolding pair_text
  pair_length = length-append (decimal (x / 1000)) _

  pub five_at_least : 5 ≤ length (pair_text x)
  unfolding decimal digits
  five_at_least = omega (arith, pair_length, length-append (unless_zero (x / 1000 / 10) (digits (x / 1000) (x / 1000 / 10))) (digit (x / 1000 % 10) ∷ []))

  pub five_bytes : x < 10000 → 5 ≡ length (pair_text x)
  five_bytes h = omega (arith, pair_length, ap length (one_digit (x / 1000) (omega arith)))

  pub six_bytes : 10000 ≤ x → x < 100000 → 6 ≡ length (pair_text x)
  six_bytes h k = omega (arith, pair_length, ap length (two_digits (x / 1000) (omega arith) (omega arith)))

-- room for any number, and for any depth, and what it takes of it
pub number_room : (n at room : ℕ) → n < 18446744073709551616 → at + most_digits ≤ room → at + length (decimal n) ≤ room
number_room n at room h k = omega (arith, number_length n h)

pub number_within : (n at : ℕ) {end : ℕ} → n < 18446744073709551616 → end ≡ at + length (decimal n) → end ≤ at + most_digits
number_within n at h e = omega (arith, number_length n h)

pub depth_room : (n at room : ℕ) → n < 100 → at + 2 ≤ room → at + length (decimal n) ≤ room
depth_room n at room h k = omega (arith, decimal_length n 1 h)

-- room for a number is room for its digits: for its only one, for those before the last, and then for the last
pub digit_room : (n at room : ℕ) → at + length (decimal n) ≤ room → n < 10 → at < room
digit_room n at room k h = omega (arith, ap length (one_digit n h))

longer : (n : ℕ) → 10 ≤ n → length (decimal n) ≡ length (decimal (n / 10)) + 1
longer n h = ap length (more_digits n h) ∙ length-append (decimal (n / 10)) (digit (n % 10) ∷ [])

pub front_room : (n at room : ℕ) → at + length (decimal n) ≤ room → 10 ≤ n → at + length (decimal (n / 10)) ≤ room
front_room n at room k h = omega (arith, longer n h)

-- what stands in front of the end, and that a line keeps its length
module _ {a b s : List ℕ} {i j : ℕ} (p : Put a i s b j) where
  front_length : length (take i a ++ s) ≡ j
  front_length = omega (arith, length-append (take i a) s, length-take-le i a (omega (arith, p.size, p.within)), p.size)

  pub put_length : length b ≡ length a
  put_length = ap length p.is ∙ omega (arith, front_length, length-append (take i a ++ s) (drop j a), length-drop j a, p.within)

  pub put_within : j ≤ length b
  put_within = omega (arith, put_length, p.within)

  pub put_front : take j b ≡ take i a ++ s
  put_front = ap (take j) p.is ∙ take_at (take i a ++ s) (drop j a) j front_length

  put_behind : (n : ℕ) → drop (j + n) b ≡ drop (j + n) a
  put_behind n =
      ap (drop (j + n)) p.is ∙ ap (λ (k : ℕ). drop (k + n) ((take i a ++ s) ++ drop j a)) (sym front_length)
      ∙ drop-append-add (take i a ++ s) (drop j a) n ∙ drop-drop n j a

pub put_none : (a : List ℕ) (i : ℕ) → i ≤ length a → Put a i [] a i
put_none a i h = record { is = sym (ap (λ (u : List ℕ). u ++ drop i a) (append-nil (take i a)) ∙ take-append-drop i a); size = omega arith; within = h }

pub put_one : (a : List ℕ) (i byte : ℕ) {j : ℕ} → i < length a → j ≡ i + 1 → Put a i (byte ∷ []) (set a i byte) j
put_one a i byte {j} h e = record {
  is = set_split a i byte h ∙ sym (append_assoc (take i a) (byte ∷ []) (drop (suc i) a)) ∙ ap (λ (n : ℕ). (take i a ++ byte ∷ []) ++ drop n a) (let n : suc i ≡ j = omega arith in n);
  size = e;
  within = omega arith;
}

pub put_copied : (a s : List ℕ) (i : ℕ) {part : List ℕ} → i + length s ≤ length a → part ≡ s → Put a i s (put_mid i (i + length s - i) a part) (i + length s)
put_copied a s i {part} h e = record {
  is = rw e (sym (append_assoc (take i a) s (drop (i + length s - i) (drop i a))) ∙ ap (λ (u : List ℕ). take i a ++ s ++ u) (drop-drop (i + length s - i) i a ∙ ap (λ (n : ℕ). drop n a) (omega arith)));
  size = refl;
  within = h;
}

-- bytes, and more behind them
pub then_put : {a b c s t : List ℕ} {i j k : ℕ} → Put a i s b j → Put b j t c k → Put a i (s ++ t) c k
then_put {a} {b} {c} {s} {t} {i} {j} {k} p q = record {
  is =
      q.is ∙ ap (λ (u : List ℕ). (u ++ t) ++ drop k b) (put_front p)
      ∙ ap (λ (u : List ℕ). ((take i a ++ s) ++ t) ++ u) (ap (λ (n : ℕ). drop n b) q.size ∙ put_behind p (length t) ∙ ap (λ (n : ℕ). drop n a) (sym q.size))
      ∙ ap (λ (u : List ℕ). u ++ drop k a) (append_assoc (take i a) s t);
  size = omega (arith, p.size, q.size, length-append s t);
  within = omega (arith, put_length p, q.within);
}

pub last_room : (n : ℕ) {a b : List ℕ} {at last : ℕ} → at + length (decimal n) ≤ length a → 10 ≤ n → Put a at (decimal (n / 10)) b last → last < length b
last_room n room h p = omega (arith, longer n h, p.size, put_length p)

pub put_as : {a b s t : List ℕ} {i j : ℕ} → s ≡ t → Put a i s b j → Put a i t b j
put_as {a} {b} {i = i} {j = j} e p = rw e at p

-- a pair: its depth, then the full stop and the three digits of its label
module _ {a b : List ℕ} {i j x : ℕ} (p : Put a i (decimal (x / 1000)) b j) (small : Fits w16 x) (room : i + most_pair_bytes ≤ length a) where
  depth_digits : length (decimal (x / 1000)) ≤ 2
  depth_digits = decimal_length (x / 1000) 1 (omega arith)

  pub label_room : j + 4 ≤ length b
  label_room = omega (arith, depth_digits, p.size, put_length p)

  pub pair_within : j + 4 ≤ i + most_pair_bytes
  pair_within = omega (arith, depth_digits, p.size)

  pub pair_put : {c : List ℕ} {k : ℕ} → Put b j (full_stop ∷ digit (x % 1000 / 100) ∷ digit (x % 1000 / 10 % 10) ∷ digit (x % 1000 % 10) ∷ []) c k → Put a i (pair_text x) c k
  unfolding pair_text
  pair_put q = then_put p q

-- the length of a list's part, as a slice asks it
pub taken_length : {n : ℕ} (s : List ℕ) → n ≤ length s → n ≡ length (take n s)
taken_length {n} s h = sym (length-take-le n s h)
