-- LAWS for `shift`: what its loop has done so far.
use mathlib.Core.Path.{◌≡◌, refl, ap, ◌∙◌}
use mathlib.Core.List.{List}
use Prim.Native.Nat.{ℕ, ◌+◌, ◌-◌, ◌≤◌, ◌<◌}
use native.Mathlib.Omega.{arith}
use native.Mathlib.Decide.{dec_lt}
use lib.ListN.{length, get_or, set, length-set}
use lib.Seq.{get_or-set_same, get_or-set_other}
use Rattle.exchange.specs.Exchange.{Exchanged}

-- the pairs from a + 1 to k stand one place further to the front, the others not moved
pub record Shifting (s t : List ℕ) (a c k : ℕ) : Type 0 where
  pub same_length : length t ≡ length s
  pub low : a < k
  pub high : k ≤ c
  pub within : c ≤ length s
  pub before : (j : ℕ) → j < a → get_or t j 0 ≡ get_or s j 0
  pub moved : (j m : ℕ) → a ≤ m → j < k → j ≡ m + 1 → get_or t m 0 ≡ get_or s j 0
  pub behind : (j : ℕ) → k ≤ j → get_or t j 0 ≡ get_or s j 0

pub begun : (s : List ℕ) (a c : ℕ) → a < c → c ≤ length s → Shifting s s a c (a + 1)
begun s a c h q = record {
  same_length = refl;
  low = omega arith;
  high = omega arith;
  within = q;
  before = λ j l. refl;
  moved = λ j m l r e. absurd (omega arith);
  behind = λ j l. refl;
}

pub one_more : (s t : List ℕ) (a c k : ℕ) → Shifting s t a c k → k < c → Shifting s (set t (k - 1) (get_or t k 0)) a c (k + 1)
one_more s t a c k r h = record {
  same_length = simp length-set r.same_length;
  low = omega (arith, r.low);
  high = omega arith;
  within = r.within;
  before = λ j l. other j (λ e. omega (arith, r.low)) ∙ r.before j l;
  moved = λ j m l q e. at m j l q e (dec_lt j k);
  behind = λ j l. other j (λ e. omega (arith, r.low)) ∙ r.behind j (omega arith);
}
  where
    other : (j : ℕ) → (j ≡ k - 1 → ⊥) → get_or (set t (k - 1) (get_or t k 0)) j 0 ≡ get_or t j 0
    other j h = get_or-set_other t (k - 1) j (get_or t k 0) 0 h

    at : (m j : ℕ) → a ≤ m → j < k + 1 → j ≡ m + 1 → Dec (j < k) → get_or (set t (k - 1) (get_or t k 0)) m 0 ≡ get_or s j 0
    at m j l q e (yes z) = other m (λ w. omega arith) ∙ r.moved j m l z e
    at m j l q e (no z) =
        let em : m ≡ k - 1 = omega arith in
        let ej : k ≡ j = omega arith in
        (rw em (get_or-set_same t (k - 1) (get_or t k 0) 0 (omega (arith, r.same_length, r.within)))) ∙ r.behind k (omega arith) ∙ ap (λ (n : ℕ). get_or s n 0) ej

pub shifted : (s t : List ℕ) (a c k : ℕ) → Shifting s t a c k → c ≤ k → Exchanged s (set t (c - 1) (get_or s a 0)) a (a + 1) c
shifted s t a c k r h = record {
  same_length = simp length-set r.same_length;
  before = λ j l. other j (λ e. omega (arith, r.low)) ∙ r.before j l;
  to_back = λ j m l q e. last j m l q e;
  to_front = λ j m l q e. other m (λ w. omega arith) ∙ r.moved j m (omega arith) (omega arith) (omega arith);
  behind = λ j l. other j (λ e. omega (arith, r.low, r.high)) ∙ r.behind j (omega (arith, r.high));
}
  where
    other : (j : ℕ) → (j ≡ c - 1 → ⊥) → get_or (set t (c - 1) (get_or s a 0)) j 0 ≡ get_or t j 0
    other j h = get_or-set_other t (c - 1) j (get_or s a 0) 0 h

    last : (j m : ℕ) → a ≤ j → j < a + 1 → m + (a + 1) ≡ j + c → get_or (set t (c - 1) (get_or s a 0)) m 0 ≡ get_or s j 0
    last j m l q e =
        let em : m ≡ c - 1 = omega arith in
        let ej : a ≡ j = omega arith in
        (rw em (get_or-set_same t (c - 1) (get_or s a 0) 0 (omega (arith, r.same_length, r.within, r.low, r.high)))) ∙ ap (λ (n : ℕ). get_or s n 0) ej

pub single : {s t : List ℕ} {a b c : ℕ} → b ≡ a + 1 → Exchanged s t a (a + 1) c → Exchanged s t a b c
single e x = rw e x
