-- LAWS. Decisions: connectives, bounded quantifiers, what a decision says.
use mathlib.Core.Path.{◌≡◌}
use mathlib.Core.Bool.{true}
use mathlib.Core.List.{List, ◌∷◌}
use mathlib.Core.Logic.{◌↔◌, ◌⊎◌, inl, inr, ⊎_elim}
use Prim.Native.Nat.{ℕ, zero, suc, ◌≤◌, ◌<◌}
use native.Mathlib.Omega.{arith}
use native.Mathlib.Decide.{dec_lt, dec_le}
use lib.ListN.{length, get_or}
use Rattle.terms.specs.Tells.{decided}

unfoldable pub both? : {A B : Type 0} → Dec A → Dec B → Dec (A × B)
both? (yes a) (yes b) = yes (a, b)
both? (yes a) (no b) = no (λ h. b h.1)
both? (no a) _ = no (λ h. a h.0)

unfoldable pub either? : {A B : Type 0} → Dec A → Dec B → Dec (A ⊎ B)
either? (yes a) _ = yes (inl a)
either? (no a) (yes b) = yes (inr b)
either? (no a) (no b) = no (⊎_elim a b)

unfoldable pub not? : {A : Type 0} → Dec A → Dec (¬ A)
not? (yes a) = no (λ h. h a)
not? (no a) = yes a

unfoldable pub implies? : {A B : Type 0} → Dec A → Dec B → Dec (A → B)
implies? (yes a) (yes b) = yes (λ _. b)
implies? (yes a) (no b) = no (λ f. b (f a))
implies? (no a) _ = yes (λ h. absurd (a h))

unfoldable pub iff? : {A B : Type 0} → Dec A → Dec B → Dec (A ↔ B)
unfolding both? implies?
iff? a b = both? (implies? a b) (implies? b a)

unfoldable pub map? : {A B : Type 0} → (A → B) → (B → A) → Dec A → Dec B
map? f g (yes a) = yes (f a)
map? f g (no a) = no (λ b. a (g b))

-- for every i below n
unfoldable pub all_below? : (P : ℕ → Type 0) → ((i : ℕ) → Dec (P i)) → (n : ℕ) → Dec ((i : ℕ) → i < n → P i)
unfolding dec_lt
all_below? P d zero = yes (λ i h. absurd (omega arith))
all_below? P d (suc n) = go (d n) (all_below? P d n)
  where
    join : P n → ((i : ℕ) → i < n → P i) → (i : ℕ) → i < suc n → P i
    join p f i h = at (dec_lt i n)
      where
        at : Dec (i < n) → P i
        at (yes q) = f i q
        at (no q) = let e : n ≡ i = omega arith in rw e at p

    go : Dec (P n) → Dec ((i : ℕ) → i < n → P i) → Dec ((i : ℕ) → i < suc n → P i)
    go (no p) _ = no (λ f. p (f n (omega arith)))
    go (yes p) (yes f) = yes (join p f)
    go (yes p) (no f) = no (λ g. f (λ i h. g i (omega arith)))

-- for some i below n
unfoldable pub some_below? : (P : ℕ → Type 0) → ((i : ℕ) → Dec (P i)) → (n : ℕ) → Dec ((i : ℕ) × (i < n) × P i)
some_below? P d zero = no (λ h. let k : h.0 < 0 = h.1 in omega arith)
some_below? P d (suc n) = go (d n) (some_below? P d n)
  where
    go : Dec (P n) → Dec ((i : ℕ) × (i < n) × P i) → Dec ((i : ℕ) × (i < suc n) × P i)
    go (yes p) _ = yes (n, omega arith, p)
    go (no p) (yes z) = let k : z.0 < n = z.1 in yes (z.0, omega arith, z.2)
    go (no p) (no z) = no (λ h. at h (dec_lt h.0 n))
      where
        at : (h : (i : ℕ) × (i < suc n) × P i) → Dec (h.0 < n) → ⊥
        at h (yes q) = z (h.0, q, h.2)
        at h (no q) = let k : h.0 < suc n = h.1 in let e : h.0 ≡ n = omega arith in p (rw e at h.2)

-- all numbers of a sequence are below a limit
abbrev pub AllBelow : ℕ → List ℕ → Type 0
AllBelow limit s = (i : ℕ) → i < length s → get_or s i 0 < limit

pub all_below_tail : (limit x : ℕ) (s : List ℕ) → AllBelow limit (x ∷ s) → AllBelow limit s
all_below_tail limit x s h i q = h (suc i) (omega arith)

-- a where it holds, else b
abbrev pub choose : {A : Type 0} → Dec A → (a b : ℕ) → ℕ
choose (yes _) a b = a
choose (no _) a b = b

-- what a decision says
pub by_computing : {A : Type 0} (d : Dec A) → decided d ≡ true → A
unfolding decided
by_computing (yes a) e = a
by_computing (no _) e = let z : ◌≡◌ {A = ℕ} 0 1 = cc in absurd (omega arith)

-- "from .. to": a number in a range
unfoldable pub within? : (low x high : ℕ) → Dec ((low ≤ x) × (x ≤ high))
unfolding both? dec_le
within? low x high = both? (dec_le low x) (dec_le x high)
