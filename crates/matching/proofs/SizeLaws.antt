-- LAWS. Where a pattern's node fits, the data's subtree has as many nodes as the pattern's: sums over the children, each of which has room in
-- the subtree of its own place.
use mathlib.Core.Path.{◌≡◌, refl, sym, ap, ◌∙◌}
use mathlib.Core.List.{List}
use Prim.Native.Nat.{ℕ, zero, suc, ◌+◌, ◌-◌, ◌≤◌, ◌<◌}
use native.Mathlib.Omega.{arith}
use native.Mathlib.Decide.{dec_lt, ℕ_discrete}
use lib.ListN.{length, get_or}
use Rattle.terms.specs.Tree.{depthAt, IsTree, IsParent, SubtreeEnd}
use Rattle.terms.specs.Fits.{Fits, fits}
use Rattle.terms.proofs.Decide.{both?, not?}
use Rattle.terms.proofs.TreeLaws.{parent?}
use Rattle.tree.proofs.SubtreeLaws.{deeper_more}
use Rattle.matching.proofs.ScanLaws.{ended}

-- SUMS over the numbers below n that are so

weighed : {A : Type 0} → Dec A → ℕ → ℕ
weighed (yes _) w = w
weighed (no _) _ = 0

weighed_yes : {A : Type 0} → A → (d : Dec A) (w : ℕ) → weighed d w ≡ w
unfolding weighed
weighed_yes a (yes _) w = refl
weighed_yes a (no n) w = absurd (n a)

weighed_no : {A : Type 0} → ¬ A → (d : Dec A) (w : ℕ) → weighed d w ≡ 0
unfolding weighed
weighed_no n (yes a) w = absurd (n a)
weighed_no n (no _) w = refl

sum_below : {C : ℕ → Type 0} → ((i : ℕ) → Dec (C i)) → (ℕ → ℕ) → ℕ → ℕ
sum_below d f zero = 0
sum_below d f (suc n) = weighed (d n) (f n) + sum_below d f n

-- all but one
abbrev pub But : (C : ℕ → Type 0) (j i : ℕ) → Type 0
But C j i = C i × ¬ (i ≡ j)

pub but? : {C : ℕ → Type 0} → ((i : ℕ) → Dec (C i)) → (j i : ℕ) → Dec (But C j i)
but? d j i = both? (d i) (not? (ℕ_discrete i j))

but_weighed : {C : ℕ → Type 0} (d : (i : ℕ) → Dec (C i)) (j i w : ℕ) → ¬ (i ≡ j) → weighed (but? d j i) w ≡ weighed (d i) w
unfolding weighed
but_weighed {C} d j i w n = go (d i) (but? d j i)
  where
    go : (a : Dec (C i)) (b : Dec (But C j i)) → weighed b w ≡ weighed a w
    go (yes a) (yes b) = refl
    go (yes a) (no b) = absurd (b (a, n))
    go (no a) (yes b) = absurd (a b.0)
    go (no a) (no b) = refl

but_above : {C : ℕ → Type 0} (d : (i : ℕ) → Dec (C i)) (f : ℕ → ℕ) (j n : ℕ) → n ≤ j → sum_below (but? d j) f n ≡ sum_below d f n
unfolding sum_below
but_above d f j zero h = refl
but_above d f j (suc n) h = omega (arith, but_weighed d j n (f n) (λ e. omega arith), but_above d f j n (omega arith))

-- one of them taken out
but_one : {C : ℕ → Type 0} (d : (i : ℕ) → Dec (C i)) (f : ℕ → ℕ) (j n : ℕ) → j < n → C j → sum_below d f n ≡ f j + sum_below (but? d j) f n
unfolding sum_below
but_one d f j zero h c = absurd (omega arith)
but_one {C} d f j (suc n) h c = go (ℕ_discrete n j) (λ q. but_one d f j n q c)
  where
    go : Dec (n ≡ j) → (j < n → sum_below d f n ≡ f j + sum_below (but? d j) f n) → weighed (d n) (f n) + sum_below d f n ≡ f j + (weighed (but? d j n) (f n) + sum_below (but? d j) f n)
    go (yes e) r = omega (arith, weighed_yes (rw e c) (d n) (f n), ap f e, weighed_no (λ (z : But C j n). z.1 e) (but? d j n) (f n), but_above d f j n (omega arith))
    go (no e) r = omega (arith, but_weighed d j n (f n) e, r (omega arith))

-- each goes to one of its own that weighs no less
sum_into : {C E : ℕ → Type 0} (c : (i : ℕ) → Dec (C i)) (d : (i : ℕ) → Dec (E i)) (f g : ℕ → ℕ) (n m : ℕ) (to : ℕ → ℕ)
    → ((i : ℕ) → i < n → C i → (to i < m) × E (to i) × (f i ≤ g (to i))) → ((i j : ℕ) → i < n → j < n → C i → C j → to i ≡ to j → i ≡ j) → sum_below c f n ≤ sum_below d g m
unfolding sum_below weighed
sum_into c d f g zero m to h inj = omega arith
sum_into {C} {E} c d f g (suc n) m to h inj = go (c n) (λ (E' : ℕ → Type 0) (d' : (i : ℕ) → Dec (E' i)) h'. sum_into c d' f g n m to h' (λ i j a b. inj i j (omega arith) (omega arith)))
  where
    go : (z : Dec (C n)) → ((E' : ℕ → Type 0) (d' : (i : ℕ) → Dec (E' i)) → ((i : ℕ) → i < n → C i → (to i < m) × E' (to i) × (f i ≤ g (to i))) → sum_below c f n ≤ sum_below d' g m) → weighed z (f n) + sum_below c f n ≤ sum_below d g m
    go (yes z) r =
        let t = h n (omega arith) z in
        let one = but_one d g (to n) m t.0 t.1 in
        let heavy = t.2 in
        omega (arith, r (But E (to n)) (but? d (to n)) (λ i b y. let u = h i (omega arith) y in (u.0, (u.1, λ e. apart i b y e), u.2)))
      where
        apart : (i : ℕ) → i < n → C i → to i ≡ to n → ⊥
        apart i b y e = let q = inj i n (omega arith) (omega arith) y z e in omega arith
    go (no z) r = omega (arith, r E d (λ i b y. h i (omega arith) y))

-- none among the next k
sum_further : {C : ℕ → Type 0} (d : (i : ℕ) → Dec (C i)) (f : ℕ → ℕ) (n k : ℕ) → ((i : ℕ) → n ≤ i → i < n + k → ¬ C i) → sum_below d f (n + k) ≡ sum_below d f n
unfolding sum_below
sum_further d f n zero h = let e : n + 0 ≡ n = omega arith in rw e refl
sum_further d f n (suc k) h = let e : n + suc k ≡ suc (n + k) = omega arith in rw e (omega (arith, weighed_no (h (n + k) (omega arith) (omega arith)) (d (n + k)) (f (n + k)), sum_further d f n k (λ i a b. h i a (omega arith))))

sum_none : {C : ℕ → Type 0} (d : (i : ℕ) → Dec (C i)) (f : ℕ → ℕ) (n : ℕ) → ((i : ℕ) → i < n → ¬ C i) → sum_below d f n ≡ 0
unfolding sum_below
sum_none d f zero h = refl
sum_none d f (suc n) h = omega (arith, weighed_no (h n (omega arith)) (d n) (f n), sum_none d f n (λ i b. h i (omega arith)))

-- SUBTREES: a subtree ends somewhere
end_fuel : (n : ℕ) (s : List ℕ) (i e : ℕ) → e + n ≡ length s → i < e → ((k : ℕ) → i < k → k < e → depthAt s i < depthAt s k) → (f : ℕ) × SubtreeEnd s i f
end_fuel zero s i e q h d = (e, record { after = h; within = omega arith; deeper = d; stop = λ k. absurd (omega arith) })
end_fuel (suc n) s i e q h d = go (dec_lt (depthAt s i) (depthAt s e)) (λ l. end_fuel n s i (e + 1) (omega arith) (omega arith) (deeper_more s i e d l))
  where
    go : Dec (depthAt s i < depthAt s e) → (depthAt s i < depthAt s e → (f : ℕ) × SubtreeEnd s i f) → (f : ℕ) × SubtreeEnd s i f
    go (yes l) r = r l
    go (no l) r = (e, record { after = h; within = omega arith; deeper = d; stop = λ k. omega arith })

pub subtree_end : (s : List ℕ) (i : ℕ) → i < length s → (f : ℕ) × SubtreeEnd s i f
subtree_end s i h = end_fuel (length s - (i + 1)) s i (i + 1) (omega arith) (omega arith) (λ k a b. absurd (omega arith))

-- `size` says how many nodes follow each child of x in its subtree: with the child itself these are all that follow x in its own
module _ {s : List ℕ} {x e : ℕ} (t : IsTree s) (r : SubtreeEnd s x e) (size : ℕ → ℕ) (all : (y : ℕ) → IsParent s x y → SubtreeEnd s y (y + 1 + size y)) where
  kids : ℕ → ℕ
  kids k = sum_below (parent? s x) (λ y. suc (size y)) k

  -- k is one of the children, or stands behind them
  next : (k : ℕ) → x < k → k < e → depthAt s k ≤ suc (depthAt s x) → IsParent s x k
  next k a b h = record { before = a; inside = omega (arith, r.within); one_deeper = omega (arith, r.deeper k a b); between = λ m c d. r.deeper m c (omega arith) }

  step : (k : ℕ) → x < k → (l : k < e) → IsParent s x k → kids k ≡ k - (x + 1)
      → (x < k + 1 + size k) × (k + 1 + size k ≤ e) × (k + 1 + size k < e → IsParent s x (k + 1 + size k)) × (kids (k + 1 + size k) ≡ k + 1 + size k - (x + 1))
  unfolding kids sum_below
  step k a l p q = (omega arith, within, (λ v. next (k + 1 + size k) (omega arith) v (omega (arith, u.stop (omega (arith, r.within)), p.one_deeper))), omega (arith, more, weighed_yes p (parent? s x k) (suc (size k))))
    where
      u : SubtreeEnd s k (k + 1 + size k)
      u = all k p

      within : k + 1 + size k ≤ e
      within = go (dec_lt e (k + 1 + size k))
        where
          go : Dec (e < k + 1 + size k) → k + 1 + size k ≤ e
          go (no n) = omega arith
          go (yes v) = absurd (omega (arith, u.deeper e l v, r.stop (omega (arith, u.within)), p.one_deeper))

      more : kids (k + 1 + size k) ≡ weighed (parent? s x k) (suc (size k)) + kids k
      more = let z : k + 1 ≡ suc k = omega arith in sum_further (parent? s x) (λ y. suc (size y)) (k + 1) (size k) (λ i b d y. omega (arith, u.deeper i (omega arith) d, y.one_deeper, p.one_deeper)) ∙ ap kids z

  walk : (fuel k : ℕ) → x < k → k ≤ e → e ≤ k + fuel → (k < e → IsParent s x k) → kids k ≡ k - (x + 1) → kids e ≡ e - (x + 1)
  walk zero k a b h c q = let z : k ≡ e = omega arith in rw z at q
  walk (suc fuel) k a b h c q = go (dec_lt k e) (λ l. let z = step k a l (c l) q in walk fuel (k + 1 + size k) z.0 z.1 (omega arith) z.2 z.3)
    where
      go : Dec (k < e) → (k < e → kids e ≡ e - (x + 1)) → kids e ≡ e - (x + 1)
      go (no n) f = let z : k ≡ e = omega arith in rw z at q
      go (yes l) f = f l

  children_sum : kids (length s) ≡ e - (x + 1)
  unfolding kids sum_below
  children_sum = let z : e + (length s - e) ≡ length s = omega (arith, r.within) in ap kids (sym z) ∙ (behind ∙ walk (e - (x + 1)) (x + 1) (omega arith) (omega (arith, r.after)) (omega arith) first none)
    where
      behind : kids (e + (length s - e)) ≡ kids e
      behind = sum_further (parent? s x) (λ y. suc (size y)) e (length s - e) (λ i a b c. omega (arith, ended s x e i r.after (r.stop (omega (arith, c.inside))) c))

      first : x + 1 < e → IsParent s x (x + 1)
      first h = next (x + 1) (omega arith) h (let z : x + 1 ≡ suc x = omega arith in rw z (t.later_to_next x (omega (arith, r.within))))

      none : kids (x + 1) ≡ x + 1 - (x + 1)
      none = sum_none (parent? s x) (λ y. suc (size y)) (x + 1) (λ i h c. omega (arith, c.before)) ∙ (omega arith)

-- the number of nodes that follow a node in its subtree
size_at : (s : List ℕ) (y : ℕ) → Dec (y < length s) → ℕ
size_at s y (yes h) = (subtree_end s y h).0 - (y + 1)
size_at s y (no h) = 0

size_of : (s : List ℕ) → ℕ → ℕ
size_of s y = size_at s y (dec_lt y (length s))

size_ends : (s : List ℕ) (y : ℕ) → y < length s → SubtreeEnd s y (y + 1 + size_of s y)
unfolding size_of size_at
size_ends s y h = go (dec_lt y (length s))
  where
    go : (d : Dec (y < length s)) → SubtreeEnd s y (y + 1 + size_at s y d)
    go (yes k) = let r = (subtree_end s y k).1 in let z : y + 1 + ((subtree_end s y k).0 - (y + 1)) ≡ (subtree_end s y k).0 = omega (arith, r.after) in rw z r
    go (no k) = absurd (k h)

-- THE LAW: `sizes` says how many nodes follow each node of q in its subtree
module _ {p q : List ℕ} (sizes : List ℕ) (tp : IsTree p) (tq : IsTree q) (ends : (d : ℕ) → d < length q → SubtreeEnd q d (d + 1 + get_or sizes d 0)) where
  pub fits_size : {i d e : ℕ} → Fits p q i d → d < length q → SubtreeEnd p i e → e ≤ i + 1 + get_or sizes d 0
  unfolding kids
  fits_size {i} {d} {e} (fits l to kid sub inj) h s = conclude (λ y c. fits_size (sub y c) (kid y c).inside (size_ends p y c.inside))
    where
      conclude : ((y : ℕ) → IsParent p i y → y + 1 + size_of p y ≤ y + 1 + get_or sizes (to y) 0) → e ≤ i + 1 + get_or sizes d 0
      conclude f = omega (
        arith,
        s.after,
        children_sum tp s (size_of p) (λ y c. size_ends p y c.inside),
        children_sum tq (ends d h) (λ z. get_or sizes z 0) (λ z c. ends z c.inside),
        sum_into (parent? p i) (parent? q d) (λ y. suc (size_of p y)) (λ z. suc (get_or sizes z 0)) (length p) (length q) to
            (λ y _ c. ((kid y c).inside, kid y c, omega (arith, f y c))) (λ x y _ _ c k. inj x y c k),
      )
