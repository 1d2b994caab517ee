-- LAWS. What the operations on sets compute.
use mathlib.Core.Path.{◌≡◌, refl, sym, ap, ◌∙◌}
use mathlib.Core.Logic.{◌≢◌}
use Prim.Native.Nat.{ℕ, zero, suc, ◌+◌, ◌-◌, ◌*◌, ◌/◌, ◌%◌, ◌^◌, ◌≤◌, ◌<◌, max}
use native.Mathlib.Omega.{arith}
use native.Mathlib.Nat.{mod-eq_of_lt, one-mul, mul_assoc, pow-suc, div-mul-le_self, mul-le-mul_right, le_trans}
use lib.Dec.{eqb}
use lib.Bits.{bit_or, or_step, or_zero_r, shifted_half, shifted_even}
use lib.Count.{ones, ones_step}
use lib.Pow.{pow-lt, shr-shr}
use borrow.Author.Tests.{eqb-true, eqb-false}
use Rattle.terms.specs.Tells.{Tells}
use Rattle.fleet.proofs.TellsLaws.{tells_if}
use Rattle.sets.specs.Sets.{IsVehicleNumber, bit, Member, with, without}

pub bit_small : (vehicle : ℕ) → IsVehicleNumber vehicle → bit vehicle < 2 ^ 64
bit_small vehicle h = pow-lt {i = vehicle - 1} {j = 64} (omega (arith, h.0, h.1))

-- 1 shifted
pub shifted_bit : (vehicle : ℕ) → IsVehicleNumber vehicle → 1 * 2 ^ (vehicle - 1) % 2 ^ 64 ≡ bit vehicle
shifted_bit vehicle h = ap (λ (n : ℕ). n % 2 ^ 64) (one-mul (bit vehicle)) ∙ mod-eq_of_lt (bit_small vehicle h)

pub member_told : (vehicle set : ℕ) → Tells (eqb (set / bit vehicle % 2) 1) (Member vehicle set)
member_told vehicle set = tells_if (eqb (set / bit vehicle % 2) 1) {R = Member vehicle set} (eqb-true _ _) (eqb-false _ _)

-- a member's bit can be taken off
pub bit_within : (vehicle set : ℕ) → Member vehicle set → bit vehicle ≤ set
bit_within vehicle set m = le_trans (le_one (set / bit vehicle) (bit vehicle) (omega (arith, m))) (div-mul-le_self set (bit vehicle))
  where
    le_one : (q b : ℕ) → 1 ≤ q → b ≤ q * b
    le_one q b h = le_trans (omega (arith, one-mul b)) (mul-le-mul_right b h)

pub taken_off : (vehicle set : ℕ) → Member vehicle set → set - bit vehicle ≡ without vehicle set
taken_off vehicle set m = ap (λ (n : ℕ). set - n) (sym (one-mul (bit vehicle)) ∙ ap (λ (n : ℕ). n * bit vehicle) (sym m))

pub not_there : (vehicle set : ℕ) → ¬ Member vehicle set → set ≡ without vehicle set
not_there vehicle set n = omega (arith, ap (λ (m : ℕ). m * bit vehicle) none)
  where
    none : set / bit vehicle % 2 ≡ 0
    none = omega (arith, n)

-- BIT BY BIT. A bit of a number, the number with the bit on, and with it off; the bits count from 0, the vehicles from 1
abbrev pub bit_at : (k set : ℕ) → ℕ
bit_at k set = set / 2 ^ k % 2

abbrev pub on : (k set : ℕ) → ℕ
on k set = bit_or set (2 ^ k)

abbrev pub off : (k set : ℕ) → ℕ
off k set = set - bit_at k set * 2 ^ k

-- the lowest bit, and the others: those of the half
pub bit_low : (set : ℕ) → bit_at 0 set ≡ set % 2
bit_low set = omega arith

pub bit_high : (k set : ℕ) → bit_at (suc k) set ≡ bit_at k (set / 2)
bit_high k set = ap (λ (n : ℕ). n % 2) (ap (λ (n : ℕ). set / 2 ^ n) (omega arith) ∙ sym (shr-shr set 1 k))

pub on_low : (set : ℕ) → on 0 set ≡ set / 2 * 2 + 1
on_low set = or_step set 1 ∙ ap (λ (n : ℕ). n * 2 + max (set % 2) 1) (or_zero_r (set / 2)) ∙ omega arith

pub on_high : (k set : ℕ) → on (suc k) set ≡ on k (set / 2) * 2 + set % 2
on_high k set =
    let half : 2 ^ suc k / 2 ≡ 2 ^ k = omega (arith, shifted_half 1 k) in
    let even : 2 ^ suc k % 2 ≡ 0 = omega (arith, shifted_even 1 k) in
    or_step set (2 ^ suc k) ∙ ap (λ (n : ℕ). bit_or (set / 2) n * 2 + max (set % 2) (2 ^ suc k % 2)) half ∙ ap (λ (n : ℕ). on k (set / 2) * 2 + max (set % 2) n) even ∙ omega arith

pub off_low : (set : ℕ) → off 0 set ≡ set / 2 * 2 + 0
off_low set = omega arith

pub off_high : (k set : ℕ) → off (suc k) set ≡ off k (set / 2) * 2 + set % 2
off_high k set = ap (λ (n : ℕ). set - n * 2 ^ suc k) (bit_high k set) ∙ omega (arith, doubled, within)
  where
    b : ℕ
    b = bit_at k (set / 2)

    doubled : b * 2 ^ suc k ≡ b * 2 ^ k * 2
    doubled = ap (λ (x : ℕ). b * x) (pow-suc 2 k) ∙ sym (mul_assoc b (2 ^ k) 2)

    within : b * 2 ^ k ≤ set / 2
    within = le_trans (mul-le-mul_right (2 ^ k) (omega arith)) (div-mul-le_self (set / 2) (2 ^ k))

-- what both operations do to the bits: they set one, to 1 or to 0, and leave the others
module _ (op : (k set : ℕ) → ℕ) (b : ℕ) (small : b < 2) (low : (set : ℕ) → op 0 set ≡ set / 2 * 2 + b) (high : (k set : ℕ) → op (suc k) set ≡ op k (set / 2) * 2 + set % 2) where
  low_half : (set : ℕ) → op 0 set / 2 ≡ set / 2
  low_half set = omega (arith, low set)

  high_half : (k set : ℕ) → op (suc k) set / 2 ≡ op k (set / 2)
  high_half k set = omega (arith, high k set)

  twice : (k set : ℕ) → op k (op k set) ≡ op k set
  twice zero set = low (op 0 set) ∙ omega (arith, low set)
  twice (suc k) set = high k (op (suc k) set) ∙ ap (λ (n : ℕ). op k n * 2 + op (suc k) set % 2) (high_half k set) ∙ omega (arith, twice k (set / 2), high k set)

  own_bit : (k set : ℕ) → bit_at k (op k set) ≡ b
  own_bit zero set = bit_low (op 0 set) ∙ omega (arith, low set)
  own_bit (suc k) set = bit_high k (op (suc k) set) ∙ ap (bit_at k) (high_half k set) ∙ own_bit k (set / 2)

  other_bit : (j k set : ℕ) → j ≢ k → bit_at j (op k set) ≡ bit_at j set
  other_bit zero zero set n = absurd (n refl)
  other_bit zero (suc k) set n = bit_low (op (suc k) set) ∙ omega (arith, high k set) ∙ sym (bit_low set)
  other_bit (suc j) zero set n = bit_high j (op 0 set) ∙ ap (bit_at j) (low_half set) ∙ sym (bit_high j set)
  other_bit (suc j) (suc k) set n = bit_high j (op (suc k) set) ∙ ap (bit_at j) (high_half k set) ∙ other_bit j k (set / 2) (λ e. n (ap suc e)) ∙ sym (bit_high j set)

  counted : (k set : ℕ) → bit_at k set ≡ 0 → ones (op k set) ≡ b + ones set
  counted zero set e = ones_step (op 0 set) ∙ ap (λ (n : ℕ). op 0 set % 2 + ones n) (low_half set) ∙ omega (arith, low set, ones_step set, bit_low set)
  counted (suc k) set e = ones_step (op (suc k) set) ∙ ap (λ (n : ℕ). op (suc k) set % 2 + ones n) (high_half k set)
      ∙ omega (arith, high k set, counted k (set / 2) (sym (bit_high k set) ∙ e), ones_step set)

pub with_twice : (vehicle set : ℕ) → with vehicle (with vehicle set) ≡ with vehicle set
with_twice vehicle set = twice on 1 (omega arith) on_low on_high (vehicle - 1) set

pub without_twice : (vehicle set : ℕ) → without vehicle (without vehicle set) ≡ without vehicle set
without_twice vehicle set = twice off 0 (omega arith) off_low off_high (vehicle - 1) set

pub on_own : (k set : ℕ) → bit_at k (on k set) ≡ 1
on_own = own_bit on 1 (omega arith) on_low on_high

pub on_other : (j k set : ℕ) → j ≢ k → bit_at j (on k set) ≡ bit_at j set
on_other = other_bit on 1 (omega arith) on_low on_high

pub off_own : (k set : ℕ) → bit_at k (off k set) ≡ 0
off_own = own_bit off 0 (omega arith) off_low off_high

pub off_other : (j k set : ℕ) → j ≢ k → bit_at j (off k set) ≡ bit_at j set
off_other = other_bit off 0 (omega arith) off_low off_high

pub on_counted : (k set : ℕ) → bit_at k set ≡ 0 → ones (on k set) ≡ suc (ones set)
on_counted k set e = counted on 1 (omega arith) on_low on_high k set e ∙ omega arith

-- a number is known by its bits
pub same_bits : (n s t : ℕ) → s < 2 ^ n → t < 2 ^ n → ((k : ℕ) → k < n → bit_at k s ≡ bit_at k t) → s ≡ t
same_bits zero s t h g f = omega arith
same_bits (suc n) s t h g f =
    let p = pow-suc 2 n in
    let halves = same_bits n (s / 2) (t / 2) (omega arith) (omega arith) (λ k b. sym (bit_high k s) ∙ f (suc k) (omega arith) ∙ bit_high k t) in
    omega (arith, halves, bit_low s, bit_low t, f 0 (omega arith))

-- a vehicle's bit is the one before its number
pub with_on : (k set : ℕ) → with (suc k) set ≡ on k set
with_on k set = let e : suc k - 1 ≡ k = omega arith in ap (λ (n : ℕ). on n set) e

-- a set written as its lowest bit and the others
module _ (b h : ℕ) (small : b < 2) where
  half : (b + 2 * h) / 2 ≡ h
  half = omega arith

  low : (b + 2 * h) % 2 ≡ b
  low = omega arith

  pub on_first : on 0 (b + 2 * h) ≡ 1 + 2 * h
  on_first = on_low (b + 2 * h) ∙ omega (arith, half)

  pub off_first : off 0 (b + 2 * h) ≡ 0 + 2 * h
  off_first = off_low (b + 2 * h) ∙ omega (arith, half)

  pub on_later : (k : ℕ) → on (suc k) (b + 2 * h) ≡ b + 2 * on k h
  on_later k = on_high k (b + 2 * h) ∙ ap (λ (n : ℕ). on k n * 2 + (b + 2 * h) % 2) half ∙ omega (arith, low)

  pub off_later : (k : ℕ) → off (suc k) (b + 2 * h) ≡ b + 2 * off k h
  off_later k = off_high k (b + 2 * h) ∙ ap (λ (n : ℕ). off k n * 2 + (b + 2 * h) % 2) half ∙ omega (arith, low)

  pub bit_first : bit_at 0 (b + 2 * h) ≡ b
  bit_first = bit_low (b + 2 * h) ∙ low

  pub bit_later : (k : ℕ) → bit_at (suc k) (b + 2 * h) ≡ bit_at k h
  bit_later k = bit_high k (b + 2 * h) ∙ ap (bit_at k) half

  pub ones_later : ones (b + 2 * h) ≡ b + ones h
  ones_later = ones_step (b + 2 * h) ∙ ap (λ (n : ℕ). (b + 2 * h) % 2 + ones n) half ∙ ap (λ (n : ℕ). n + ones h) low
