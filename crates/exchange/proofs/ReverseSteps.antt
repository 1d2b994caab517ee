-- LAWS for `reverse`: what its loop has done so far.
use mathlib.Core.Logic.{◌≢◌}
use mathlib.Core.Path.{◌≡◌, refl, ap, ◌∙◌}
use mathlib.Core.List.{List}
use Prim.Native.Nat.{ℕ, ◌+◌, ◌-◌, ◌≤◌, ◌<◌}
use native.Mathlib.Omega.{arith}
use native.Mathlib.Decide.{dec_lt}
use lib.ListN.{length, get_or, set, length-set}
use lib.Seq.{get_or-set_same, get_or-set_other}
use Rattle.exchange.specs.Exchange.{Reversed}

-- the pairs from a to x and from y to b are in their places, the others not moved
pub record Reversing (s t : List ℕ) (a b x y : ℕ) : Type 0 where
  pub same_length : length t ≡ length s
  pub balance : x + y ≡ a + b
  pub low : a ≤ x
  pub order : x ≤ y
  pub within : b ≤ length s
  pub mirrored_low : (k m : ℕ) → a ≤ k → k < x → k + m + 1 ≡ a + b → get_or t k 0 ≡ get_or s m 0
  pub mirrored_high : (k m : ℕ) → y ≤ k → k < b → k + m + 1 ≡ a + b → get_or t k 0 ≡ get_or s m 0
  pub inner : (k : ℕ) → x ≤ k → k < y → get_or t k 0 ≡ get_or s k 0
  pub before : (k : ℕ) → k < a → get_or t k 0 ≡ get_or s k 0
  pub behind : (k : ℕ) → b ≤ k → get_or t k 0 ≡ get_or s k 0

pub begun : (s : List ℕ) (a b : ℕ) → a ≤ b → b ≤ length s → Reversing s s a b a b
begun s a b h q = record {
  same_length = refl;
  balance = refl;
  low = omega arith;
  order = h;
  within = q;
  mirrored_low = λ k m l r e. absurd (omega arith);
  mirrored_high = λ k m l r e. absurd (omega arith);
  inner = λ k l r. refl;
  before = λ k l. refl;
  behind = λ k l. refl;
}

module _ (t : List ℕ) (x z : ℕ) (xz : x < z) (zt : z < length t) where
  at_x : get_or (set (set t x (get_or t z 0)) z (get_or t x 0)) x 0 ≡ get_or t z 0
  at_x = get_or-set_other (set t x (get_or t z 0)) z x (get_or t x 0) 0 (λ e. omega arith) ∙ get_or-set_same t x (get_or t z 0) 0 (omega arith)

  at_z : get_or (set (set t x (get_or t z 0)) z (get_or t x 0)) z 0 ≡ get_or t x 0
  at_z = get_or-set_same (set t x (get_or t z 0)) z (get_or t x 0) 0 (simp length-set zt)

  at_other : (k : ℕ) → k ≢ x → k ≢ z → get_or (set (set t x (get_or t z 0)) z (get_or t x 0)) k 0 ≡ get_or t k 0
  at_other k p q = get_or-set_other (set t x (get_or t z 0)) z k (get_or t x 0) 0 q ∙ get_or-set_other t x k (get_or t z 0) 0 p

pub one_more : (s t : List ℕ) (a b x y : ℕ) → Reversing s t a b x y → x + 1 < y → Reversing s (set (set t x (get_or t (y - 1) 0)) (y - 1) (get_or t x 0)) a b (x + 1) (y - 1)
one_more s t a b x y r h = record {
  same_length = simp (length-set, length-set) r.same_length;
  balance = omega (arith, r.balance);
  low = omega (arith, r.low);
  order = omega arith;
  within = r.within;
  mirrored_low = λ k m l q e. low k m l q e (dec_lt k x);
  mirrored_high = λ k m l q e. high k m l q e (dec_lt k y);
  inner = λ k l q. at_other t x (y - 1) xz zt k (λ e. omega arith) (λ e. omega arith) ∙ r.inner k (omega arith) (omega arith);
  before = λ k l. at_other t x (y - 1) xz zt k (λ e. omega (arith, r.low)) (λ e. omega (arith, r.low)) ∙ r.before k l;
  behind = λ k l. at_other t x (y - 1) xz zt k (λ e. omega (arith, r.balance, r.low)) (λ e. omega (arith, r.balance, r.low)) ∙ r.behind k l;
}
  where
    xz : x < y - 1
    xz = omega arith

    zt : y - 1 < length t
    zt = omega (arith, r.same_length, r.within, r.balance, r.low)

    low : (k m : ℕ) → a ≤ k → k < x + 1 → k + m + 1 ≡ a + b → Dec (k < x) → get_or (set (set t x (get_or t (y - 1) 0)) (y - 1) (get_or t x 0)) k 0 ≡ get_or s m 0
    low k m l q e (yes z) = at_other t x (y - 1) xz zt k (λ w. omega arith) (λ w. omega arith) ∙ r.mirrored_low k m l z e
    low k m l q e (no z) =
        let ek : k ≡ x = omega arith in
        let ez : y - 1 ≡ m = omega (arith, r.balance) in
        (rw ek (at_x t x (y - 1) xz zt)) ∙ r.inner (y - 1) (omega arith) (omega arith) ∙ ap (λ (n : ℕ). get_or s n 0) ez

    high : (k m : ℕ) → y - 1 ≤ k → k < b → k + m + 1 ≡ a + b → Dec (k < y) → get_or (set (set t x (get_or t (y - 1) 0)) (y - 1) (get_or t x 0)) k 0 ≡ get_or s m 0
    high k m l q e (no z) = at_other t x (y - 1) xz zt k (λ w. omega arith) (λ w. omega arith) ∙ r.mirrored_high k m (omega arith) q e
    high k m l q e (yes z) =
        let ek : k ≡ y - 1 = omega arith in
        let ez : x ≡ m = omega (arith, r.balance) in
        (rw ek (at_z t x (y - 1) xz zt)) ∙ r.inner x (omega arith) (omega arith) ∙ ap (λ (n : ℕ). get_or s n 0) ez

pub reversed : (s t : List ℕ) (a b x y : ℕ) → Reversing s t a b x y → y ≤ x + 1 → Reversed s t a b
reversed s t a b x y r h = record {
  same_length = r.same_length;
  before = r.before;
  mirrored = λ k m l q e. go k m l q e (dec_lt k x) (dec_lt k y);
  behind = r.behind;
}
  where
    go : (k m : ℕ) → a ≤ k → k < b → k + m + 1 ≡ a + b → Dec (k < x) → Dec (k < y) → get_or t k 0 ≡ get_or s m 0
    go k m l q e (yes z) _ = r.mirrored_low k m l z e
    go k m l q e (no z) (no w) = r.mirrored_high k m (omega arith) q e
    go k m l q e (no z) (yes w) = let g : m ≡ k = omega (arith, r.balance) in rw g (r.inner k (omega arith) w)
