-- LAWS. Counts of the numbers below a limit: one taken out, the pigeonhole principle, one left over.
use mathlib.Core.Path.{◌≡◌, refl, sym, ap, ◌∙◌}
use mathlib.Core.Logic.{◌≢◌}
use Prim.Native.Nat.{ℕ, zero, suc, ◌+◌, ◌≤◌, ◌<◌}
use native.Mathlib.Omega.{arith}
use native.Mathlib.Decide.{ℕ_discrete, dec_lt}
use Rattle.matching.proofs.SizeLaws.{But, but?}
use Rattle.occurrence.specs.Support.{counted}
use Rattle.occurrence.proofs.SupportLaws.{counted_yes, counted_no, counted_iff}
use Rattle.rightmost.specs.Ends.{count_below}

-- the count depends on the statement alone
pub count_iff : {C E : ℕ → Type 0} (c : (i : ℕ) → Dec (C i)) (d : (i : ℕ) → Dec (E i)) (n : ℕ) → ((i : ℕ) → i < n → C i → E i) → ((i : ℕ) → i < n → E i → C i) → count_below c n ≡ count_below d n
unfolding count_below
count_iff c d zero f g = refl
count_iff c d (suc n) f g = omega (arith, counted_iff (f n (omega arith)) (g n (omega arith)) (c n) (d n), count_iff c d n (λ i h. f i (omega arith)) (λ i h. g i (omega arith)))

-- one that is not below n does not count
but_above : {C : ℕ → Type 0} (d : (i : ℕ) → Dec (C i)) (j n : ℕ) → n ≤ j → count_below (but? d j) n ≡ count_below d n
but_above d j n h = count_iff (but? d j) d n (λ i b c. c.0) (λ i b c. (c, λ e. omega arith))

-- one that counts taken out
pub but_one : {C : ℕ → Type 0} (d : (i : ℕ) → Dec (C i)) (j n : ℕ) → j < n → C j → count_below d n ≡ suc (count_below (but? d j) n)
unfolding count_below
but_one d j zero h c = absurd (omega arith)
but_one {C} d j (suc n) h c = go (ℕ_discrete n j) (λ q. but_one d j n q c)
  where
    go : Dec (n ≡ j) → (j < n → count_below d n ≡ suc (count_below (but? d j) n)) → counted (d n) + count_below d n ≡ suc (counted (but? d j n) + count_below (but? d j) n)
    go (yes e) f = omega (arith, counted_yes (rw e c) (d n), counted_no (λ (z : But C j n). z.1 e) (but? d j n), but_above d j n (omega arith))
    go (no e) f = omega (arith, counted_iff (λ z. (z, e)) (λ (z : But C j n). z.0) (d n) (but? d j n), f (omega arith))

-- whichever is taken out: one less at most
pub but_most : {C : ℕ → Type 0} (d : (i : ℕ) → Dec (C i)) (j n : ℕ) → count_below d n ≤ suc (count_below (but? d j) n)
but_most {C} d j n = go (dec_lt j n) (d j)
  where
    go : Dec (j < n) → Dec (C j) → count_below d n ≤ suc (count_below (but? d j) n)
    go (yes h) (yes c) = omega (arith, but_one d j n h c)
    go (no h) _ = omega (arith, but_above d j n (omega arith))
    go (yes h) (no c) = omega (arith, count_iff d (but? d j) n (λ i b z. (z, λ e. c (rw e at z))) (λ i b z. z.0))

-- different ones go to different ones
pub count_into : {C E : ℕ → Type 0} (c : (i : ℕ) → Dec (C i)) (d : (i : ℕ) → Dec (E i)) (n m : ℕ) (f : ℕ → ℕ) → ((i : ℕ) → i < n → C i → (f i < m) × E (f i)) → ((i j : ℕ) → i < n → j < n → C i → C j → f i ≡ f j → i ≡ j) → count_below c n ≤ count_below d m
unfolding count_below counted
count_into c d zero m f to inj = omega arith
count_into {C} {E} c d (suc n) m f to inj = go (c n) (λ (E' : ℕ → Type 0) (d' : (i : ℕ) → Dec (E' i)) to'. count_into c d' n m f to' (λ i j h k. inj i j (omega arith) (omega arith)))
  where
    go : (z : Dec (C n)) → ((E' : ℕ → Type 0) (d' : (i : ℕ) → Dec (E' i)) → ((i : ℕ) → i < n → C i → (f i < m) × E' (f i)) → count_below c n ≤ count_below d' m) → counted z + count_below c n ≤ count_below d m
    go (yes z) r =
        let t = to n (omega arith) z in
        let one = but_one d (f n) m t.0 t.1 in
        omega (arith, r (But E (f n)) (but? d (f n)) (λ i h y. ((to i (omega arith) y).0, ((to i (omega arith) y).1, λ e. apart i h y e))))
      where
        apart : (i : ℕ) → i < n → C i → f i ≡ f n → ⊥
        apart i h y e = let q = inj i n (omega arith) (omega arith) y z e in omega arith
    go (no z) r = omega (arith, r E d (λ i h y. to i (omega arith) y))

-- where fewer go, one is left over
pub record LeftOver (C E : ℕ → Type 0) (n m : ℕ) (f : ℕ → ℕ) : Type 0 where
  pub place : ℕ
  pub below : place < m
  pub is_so : E place
  pub unused : (i : ℕ) → i < n → C i → f i ≢ place

pub some_one : {C E : ℕ → Type 0} {f : ℕ → ℕ} (d : (i : ℕ) → Dec (E i)) (m : ℕ) → 0 < count_below d m → LeftOver C E 0 m f
unfolding count_below counted
some_one d zero h = absurd (omega arith)
some_one {C} {E} {f} d (suc m) h = go (d m) h (λ q. some_one d m q)
  where
    go : (z : Dec (E m)) → 0 < counted z + count_below d m → (0 < count_below d m → LeftOver C E 0 m f) → LeftOver C E 0 (suc m) f
    go (yes z) k r = record { place = m; below = omega arith; is_so = z; unused = λ i q. absurd (omega arith) }
    go (no z) k r = let o = r (omega arith) in record { place = o.place; below = omega (arith, o.below); is_so = o.is_so; unused = λ i q. absurd (omega arith) }

pub left_over : {C E : ℕ → Type 0} (c : (i : ℕ) → Dec (C i)) (d : (i : ℕ) → Dec (E i)) (n m : ℕ) (f : ℕ → ℕ) → count_below c n < count_below d m → LeftOver C E n m f
unfolding count_below counted
left_over c d zero m f h = some_one d m h
left_over {C} {E} c d (suc n) m f h = go (c n) h (λ (E' : ℕ → Type 0) (d' : (i : ℕ) → Dec (E' i)) q. left_over c d' n m f q)
  where
    go : (z : Dec (C n)) → counted z + count_below c n < count_below d m → ((E' : ℕ → Type 0) (d' : (i : ℕ) → Dec (E' i)) → count_below c n < count_below d' m → LeftOver C E' n m f) → LeftOver C E (suc n) m f
    go (yes z) k r =
        let o = r (But E (f n)) (but? d (f n)) (omega (arith, but_most d (f n) m)) in
        record { place = o.place; below = o.below; is_so = o.is_so.0; unused = λ i q y e. all o i q y e (ℕ_discrete i n) }
      where
        all : (o : LeftOver C (But E (f n)) n m f) (i : ℕ) → i < suc n → C i → f i ≡ o.place → Dec (i ≡ n) → ⊥
        all o i q y e (yes w) = o.is_so.1 (sym e ∙ ap f w)
        all o i q y e (no w) = o.unused i (omega arith) y e
    go (no z) k r =
        let o = r E d (omega arith) in
        record { place = o.place; below = o.below; is_so = o.is_so; unused = λ i q y e. all o i q y e (ℕ_discrete i n) }
      where
        all : (o : LeftOver C E n m f) (i : ℕ) → i < suc n → C i → f i ≡ o.place → Dec (i ≡ n) → ⊥
        all o i q y e (yes w) = z (rw w at y)
        all o i q y e (no w) = o.unused i (omega arith) y e

pub none_count : {C : ℕ → Type 0} (d : (i : ℕ) → Dec (C i)) (n : ℕ) → ((i : ℕ) → i < n → ¬ C i) → count_below d n ≡ 0
unfolding count_below
none_count d zero f = refl
none_count d (suc n) f = omega (arith, counted_no (f n (omega arith)) (d n), none_count d n (λ i h. f i (omega arith)))

-- further numbers that are not so do not count
pub count_further : {C : ℕ → Type 0} (d : (i : ℕ) → Dec (C i)) (n k : ℕ) → ((i : ℕ) → n ≤ i → i < n + k → ¬ C i) → count_below d (n + k) ≡ count_below d n
unfolding count_below
count_further d n zero f = let e : n + 0 ≡ n = omega arith in rw e refl
count_further d n (suc k) f = let e : n + suc k ≡ suc (n + k) = omega arith in rw e (omega (arith, counted_no (f (n + k) (omega arith) (omega arith)) (d (n + k)), count_further d n k (λ i a b. f i a (omega arith))))
