-- LAWS. Pairs without those left out: the others stand in the whole in rising order, and none of them is missing.
use mathlib.Core.Path.{◌≡◌, refl, sym, ap, ◌∙◌}
use mathlib.Core.List.{List, [], ◌∷◌, ◌++◌}
use mathlib.Core.Logic.{◌↔◌}
use Prim.Native.Nat.{ℕ, zero, suc, ◌+◌, ◌≤◌, ◌<◌}
use native.Mathlib.Omega.{arith}
use lib.ListN.{length, get_or}
use Rattle.terms.specs.Matching.{placeAt}
use Rattle.terms.specs.LeftOut.{unless, remaining, numbers_remaining}

-- Where a node that stays stands in the whole.
pub record Node (first : ℕ) (s : List ℕ) (Out : ℕ → Type 0) (x number : ℕ) : Type 0 where
  pub at : ℕ
  pub numbered : number ≡ first + at
  pub inside : at < length s
  pub pair : x ≡ get_or s at 0
  pub stays : ¬ Out at

pub record RemainingFrom (first : ℕ) (s : List ℕ) (Out : ℕ → Type 0) (t numbers : List ℕ) : Type 0 where
  pub as_many : length numbers ≡ length t
  pub each : (i : ℕ) → i < length t → Node first s Out (get_or t i 0) (get_or numbers i 0)
  pub rising : (i j : ℕ) → i < j → j < length t → get_or numbers i 0 < get_or numbers j 0
  pub none_missing : (k : ℕ) → k < length s → ¬ Out k → (i : ℕ) × (i < length t) × (get_or numbers i 0 ≡ first + k)

module _ (first x : ℕ) (s : List ℕ) {Out : ℕ → Type 0} {t n : List ℕ} (r : RemainingFrom (suc first) s (λ i. Out (suc i)) t n) where
  next : {y m : ℕ} → Node (suc first) s (λ i. Out (suc i)) y m → Node first (x ∷ s) Out y m
  next h = record { at = suc h.at; numbered = omega (arith, h.numbered); inside = omega (arith, h.inside); pair = h.pair; stays = h.stays }

  leaving : Out 0 → RemainingFrom first (x ∷ s) Out t n
  leaving o = record { as_many = r.as_many; each = λ i h. next (r.each i h); rising = r.rising; none_missing = all }
    where
      all : (k : ℕ) → k < length (x ∷ s) → ¬ Out k → (i : ℕ) × (i < length t) × (get_or n i 0 ≡ first + k)
      all zero h q = absurd (q o)
      all (suc k) h q = let z = r.none_missing k (omega arith) q in (z.0, z.1, omega (arith, z.2))

  with_it : ¬ Out 0 → RemainingFrom first (x ∷ s) Out (x ∷ t) (first ∷ n)
  with_it o = record { as_many = omega (arith, r.as_many); each = all_each; rising = up; none_missing = all }
    where
      all_each : (i : ℕ) → i < length (x ∷ t) → Node first (x ∷ s) Out (get_or (x ∷ t) i 0) (get_or (first ∷ n) i 0)
      all_each zero h = record { at = 0; numbered = omega arith; inside = omega arith; pair = refl; stays = o }
      all_each (suc i) h = next (r.each i (omega arith))

      up : (i j : ℕ) → i < j → j < length (x ∷ t) → get_or (first ∷ n) i 0 < get_or (first ∷ n) j 0
      up zero zero b h = absurd (omega arith)
      up zero (suc j) b h = omega (arith, (r.each j (omega arith)).numbered)
      up (suc i) zero b h = absurd (omega arith)
      up (suc i) (suc j) b h = r.rising i j (omega arith) (omega arith)

      all : (k : ℕ) → k < length (x ∷ s) → ¬ Out k → (i : ℕ) × (i < length (x ∷ t)) × (get_or (first ∷ n) i 0 ≡ first + k)
      all zero h q = (0, omega arith, omega arith)
      all (suc k) h q = let z = r.none_missing k (omega arith) q in let b = z.1 in (suc z.0, omega arith, omega (arith, z.2))

  one_more : (d : Dec (Out 0)) → RemainingFrom first (x ∷ s) Out (unless d x t) (unless d first n)
  unfolding unless
  one_more (yes o) = leaving o
  one_more (no o) = with_it o

pub remaining_from : (first : ℕ) (s : List ℕ) {Out : ℕ → Type 0} (out? : (i : ℕ) → Dec (Out i)) → RemainingFrom first s Out (remaining out? s) (numbers_remaining out? first s)
unfolding remaining numbers_remaining
remaining_from first [] out? = record { as_many = refl; each = λ i h. absurd (omega arith); rising = λ i j b h. absurd (omega arith); none_missing = λ k h q. absurd (omega arith) }
remaining_from first (x ∷ s) out? = one_more first x s (remaining_from (suc first) s (λ i. out? (suc i))) (out? 0)

-- The same with numbers from 1: position i of the without is position `placeAt numbers i` of the whole.
pub record IsRemaining (s : List ℕ) (Out : ℕ → Type 0) (t numbers : List ℕ) : Type 0 where
  pub as_many : length numbers ≡ length t
  pub from_1 : (i : ℕ) → i < length t → 1 ≤ get_or numbers i 0
  pub inside : (i : ℕ) → i < length t → placeAt numbers i < length s
  pub pair : (i : ℕ) → i < length t → get_or t i 0 ≡ get_or s (placeAt numbers i) 0
  pub stays : (i : ℕ) → i < length t → ¬ Out (placeAt numbers i)
  pub rising : (i j : ℕ) → i < j → j < length t → placeAt numbers i < placeAt numbers j
  pub none_missing : (k : ℕ) → k < length s → ¬ Out k → (i : ℕ) × (i < length t) × (placeAt numbers i ≡ k)

pub remaining_is : (s : List ℕ) {Out : ℕ → Type 0} (out? : (i : ℕ) → Dec (Out i)) → IsRemaining s Out (remaining out? s) (numbers_remaining out? 1 s)
remaining_is s {Out} out? = record {
  as_many = r.as_many;
  from_1 = λ i h. omega (arith, (r.each i h).numbered);
  inside = λ i h. omega (arith, (r.each i h).numbered, (r.each i h).inside);
  pair = λ i h. (r.each i h).pair ∙ ap (λ (k : ℕ). get_or s k 0) (sym (place i h));
  stays = λ i h o. (r.each i h).stays (rw (place i h) at o);
  rising = λ i j b h. omega (arith, r.rising i j b h, (r.each i (omega arith)).numbered);
  none_missing = λ k h q. let z = r.none_missing k h q in (z.0, z.1, omega (arith, z.2));
}
  where
    r : RemainingFrom 1 s Out (remaining out? s) (numbers_remaining out? 1 s)
    r = remaining_from 1 s out?

    place : (i : ℕ) (h : i < length (remaining out? s)) → placeAt (numbers_remaining out? 1 s) i ≡ (r.each i h).at
    place i h = omega (arith, (r.each i h).numbered)

-- The without depends on which nodes are out, not on how that is decided.
pub unless_same : {A B : Type 0} → A ↔ B → (a : Dec A) (b : Dec B) (x : ℕ) (s : List ℕ) → unless a x s ≡ unless b x s
unfolding unless
unless_same e (yes a) (yes b) x s = refl
unless_same e (yes a) (no b) x s = absurd (b (e.0 a))
unless_same e (no a) (yes b) x s = absurd (a (e.1 b))
unless_same e (no a) (no b) x s = refl

pub remaining_same : (s : List ℕ) {A B : ℕ → Type 0} (a? : (i : ℕ) → Dec (A i)) (b? : (i : ℕ) → Dec (B i)) → ((i : ℕ) → i < length s → A i ↔ B i) → remaining a? s ≡ remaining b? s
unfolding remaining
remaining_same [] a? b? e = refl
remaining_same (x ∷ s) a? b? e =
    unless_same (e 0 (omega arith)) (a? 0) (b? 0) x (remaining (λ i. a? (suc i)) s)
    ∙ ap (unless (b? 0) x) (remaining_same s (λ i. a? (suc i)) (λ i. b? (suc i)) (λ i h. e (suc i) (omega arith)))

-- left out, or not
pub unless_yes : {A : Type 0} → A → (d : Dec A) (x : ℕ) (s : List ℕ) → unless d x s ≡ s
unfolding unless
unless_yes a (yes _) x s = refl
unless_yes a (no n) x s = absurd (n a)

pub unless_no : {A : Type 0} → ¬ A → (d : Dec A) (x : ℕ) (s : List ℕ) → unless d x s ≡ x ∷ s
unfolding unless
unless_no n (yes a) x s = absurd (n a)
unless_no n (no _) x s = refl

unless_append : {A : Type 0} (a : Dec A) (x : ℕ) (s t : List ℕ) → unless a x (s ++ t) ≡ unless a x s ++ t
unfolding unless
unless_append (yes a) x s t = refl
unless_append (no a) x s t = refl

pub remaining_append : (s t : List ℕ) {A B : ℕ → Type 0} (a? : (i : ℕ) → Dec (A i)) (b? : (i : ℕ) → Dec (B i)) → ((i : ℕ) → i < length t → A (length s + i) ↔ B i)
    → remaining a? (s ++ t) ≡ remaining a? s ++ remaining b? t
unfolding remaining
remaining_append [] t a? b? e = remaining_same t a? b? (λ i h. let q : 0 + i ≡ i = omega arith in rw q at (e i h))
remaining_append (x ∷ s) t a? b? e =
    ap (unless (a? 0) x) (remaining_append s t (λ i. a? (suc i)) b? (λ i h. let q : suc (length s) + i ≡ suc (length s + i) = omega arith in rw q at (e i h)))
    ∙ unless_append (a? 0) x (remaining (λ i. a? (suc i)) s) (remaining b? t)
