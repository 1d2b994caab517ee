-- LAWS for `shift_back`: what its loop has done so far.
use mathlib.Core.Path.{◌≡◌, refl, ap, ◌∙◌}
use mathlib.Core.List.{List}
use Prim.Native.Nat.{ℕ, ◌+◌, ◌-◌, ◌≤◌, ◌<◌}
use native.Mathlib.Omega.{arith}
use native.Mathlib.Decide.{dec_lt}
use lib.ListN.{length, get_or, set, length-set}
use lib.Seq.{get_or-set_same, get_or-set_other}
use Rattle.exchange.specs.Exchange.{Exchanged}

-- the pairs from k to b stand one place further to the back, the others not moved
pub record ShiftingBack (s t : List ℕ) (a b k : ℕ) : Type 0 where
  pub same_length : length t ≡ length s
  pub low : a ≤ k
  pub high : k ≤ b
  pub within : b < length s
  pub before : (j : ℕ) → j ≤ k → get_or t j 0 ≡ get_or s j 0
  pub moved : (j m : ℕ) → k < m → m ≤ b → m ≡ j + 1 → get_or t m 0 ≡ get_or s j 0
  pub behind : (j : ℕ) → b < j → get_or t j 0 ≡ get_or s j 0

pub begun : (s : List ℕ) (a b : ℕ) → a ≤ b → b < length s → ShiftingBack s s a b b
begun s a b h q = record {
  same_length = refl;
  low = h;
  high = omega arith;
  within = q;
  before = λ j l. refl;
  moved = λ j m l r e. absurd (omega arith);
  behind = λ j l. refl;
}

pub one_more : (s t : List ℕ) (a b k : ℕ) → ShiftingBack s t a b k → a < k → ShiftingBack s (set t k (get_or t (k - 1) 0)) a b (k - 1)
one_more s t a b k r h = record {
  same_length = simp length-set r.same_length;
  low = omega arith;
  high = omega (arith, r.high);
  within = r.within;
  before = λ j l. other j (λ e. omega arith) ∙ r.before j (omega arith);
  moved = λ j m l q e. at m j l q e (dec_lt k m);
  behind = λ j l. other j (λ e. omega (arith, r.high)) ∙ r.behind j l;
}
  where
    other : (j : ℕ) → (j ≡ k → ⊥) → get_or (set t k (get_or t (k - 1) 0)) j 0 ≡ get_or t j 0
    other j n = get_or-set_other t k j (get_or t (k - 1) 0) 0 n

    at : (m j : ℕ) → k - 1 < m → m ≤ b → m ≡ j + 1 → Dec (k < m) → get_or (set t k (get_or t (k - 1) 0)) m 0 ≡ get_or s j 0
    at m j l q e (yes z) = other m (λ w. omega arith) ∙ r.moved j m z q e
    at m j l q e (no z) =
        let em : m ≡ k = omega arith in
        let ej : k - 1 ≡ j = omega arith in
        (rw em (get_or-set_same t k (get_or t (k - 1) 0) 0 (omega (arith, r.same_length, r.within, r.high)))) ∙ r.before (k - 1) (omega arith) ∙ ap (λ (n : ℕ). get_or s n 0) ej

pub shifted : (s t : List ℕ) (a b k : ℕ) → ShiftingBack s t a b k → k ≤ a → Exchanged s (set t a (get_or s b 0)) a b (b + 1)
shifted s t a b k r h = record {
  same_length = simp length-set r.same_length;
  before = λ j l. other j (λ e. omega arith) ∙ r.before j (omega (arith, r.low));
  to_back = λ j m l q e. other m (λ w. omega arith) ∙ r.moved j m (omega arith) (omega arith) (omega arith);
  to_front = λ j m l q e. first j m l q e;
  behind = λ j l. other j (λ e. omega (arith, r.low, r.high)) ∙ r.behind j (omega arith);
}
  where
    other : (j : ℕ) → (j ≡ a → ⊥) → get_or (set t a (get_or s b 0)) j 0 ≡ get_or t j 0
    other j n = get_or-set_other t a j (get_or s b 0) 0 n

    first : (j m : ℕ) → b ≤ j → j < b + 1 → m + b ≡ j + a → get_or (set t a (get_or s b 0)) m 0 ≡ get_or s j 0
    first j m l q e =
        let em : m ≡ a = omega arith in
        let ej : b ≡ j = omega arith in
        (rw em (get_or-set_same t a (get_or s b 0) 0 (omega (arith, r.same_length, r.within, r.low, r.high)))) ∙ ap (λ (n : ℕ). get_or s n 0) ej

pub single_last : {s t : List ℕ} {a b c : ℕ} → c ≡ b + 1 → Exchanged s t a b (b + 1) → Exchanged s t a b c
single_last e x = rw e x
