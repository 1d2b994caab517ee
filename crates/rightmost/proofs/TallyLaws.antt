-- LAWS. A count kept while vehicles come in order: each counted once.
use mathlib.Core.Path.{◌≡◌, refl}
use mathlib.Core.Logic.{◌↔◌, ◌⊎◌, inl, inr, ⊎_elim}
use mathlib.Core.List.{List, []}
use Prim.Native.Nat.{ℕ, zero, suc, ◌-◌, ◌≤◌, ◌<◌}
use native.Mathlib.Omega.{arith}
use native.Mathlib.Decide.{dec_lt, ℕ_discrete}
use lib.ListN.{length, get_or}
use Rattle.terms.specs.Placing.{Occurs}
use Rattle.terms.specs.Fleet.{vehicles}
use Rattle.terms.proofs.OccursDecided.{occurs?}
use Rattle.occurrence.specs.Support.{counted, whole_support}
use Rattle.occurrence.proofs.SupportLaws.{counted_yes, counted_no}
use Rattle.rightmost.specs.PlaceList.{HowMany, none, one_more, not_this, Tally}
use Rattle.rightmost.specs.Ends.{count_below}
use Rattle.rightmost.proofs.FleetPlaces.{shift, support_counts}

pub many_same : {N M : ℕ → Type 0} {n c : ℕ} → ((i : ℕ) → i < n → N i ↔ M i) → HowMany N n c → HowMany M n c
many_same f none = none
many_same f (one_more {n = n} h r) = one_more ((f n (omega arith)).0 h) (many_same (λ i l. f i (omega arith)) r)
many_same f (not_this {n = n} h r) = not_this (λ m. h ((f n (omega arith)).1 m)) (many_same (λ i l. f i (omega arith)) r)

-- with the one that comes now
abbrev pub And : (N : ℕ → Type 0) (v i : ℕ) → Type 0
And N v i = N i ⊎ (i ≡ v)

pub many_more : {N : ℕ → Type 0} {n c : ℕ} (v : ℕ) → v < n → ¬ N v → HowMany N n c → HowMany (And N v) n (suc c)
many_more v h k none = absurd (omega arith)
many_more {N} v h k (one_more {n = n} {c = c} m r) = go (ℕ_discrete n v) (λ l. many_more v l k r)
  where
    go : Dec (n ≡ v) → (v < n → HowMany (And N v) n (suc c)) → HowMany (And N v) (suc n) (suc (suc c))
    go (yes e) f = absurd (k (rw e at m))
    go (no e) f = one_more (inl m) (f (omega arith))
many_more {N} v h k (not_this {n = n} {c = c} m r) = go (ℕ_discrete n v) (λ l. many_more v l k r)
  where
    go : Dec (n ≡ v) → (v < n → HowMany (And N v) n (suc c)) → HowMany (And N v) (suc n) (suc c)
    go (yes e) f = one_more (inr e) (many_same (λ i l. ((λ z. inl z), ⊎_elim (λ z. z) (λ z. absurd (omega arith)))) r)
    go (no e) f = not_this (⊎_elim m e) (f (omega arith))

-- none has come
pub tally_none : {N : ℕ → Type 0} (limit : ℕ) → ((n : ℕ) → ¬ N n) → Tally N limit 0 0
tally_none {N} limit f = record { counted = go limit; none_above = λ n h. absurd (f n h); from_1 = λ n h. absurd (f n h); last_came = λ h. absurd (omega arith) }
  where
    go : (n : ℕ) → HowMany N n 0
    go zero = none
    go (suc n) = not_this (f n) (go n)

-- the same as last: nothing changes
pub tally_again : {N M : ℕ → Type 0} {limit last count : ℕ} → 1 ≤ last → ((i : ℕ) → M i ↔ And N last i) → Tally N limit last count → Tally M limit last count
tally_again {N} {M} {limit} {last} h f t = record {
  counted = many_same (λ i l. ((λ z. (f i).1 (inl z)), (λ z. back i ((f i).0 z)))) t.counted;
  none_above = λ n z. t.none_above n (back n ((f n).0 z));
  from_1 = λ n z. t.from_1 n (back n ((f n).0 z));
  last_came = λ l. (f last).1 (inl (t.last_came l));
}
  where
    back : (i : ℕ) → And N last i → N i
    back i = ⊎_elim (λ z. z) (λ e. rw e (t.last_came h))

-- another, and none that came was larger: one more
pub tally_more : {N M : ℕ → Type 0} {limit last count : ℕ} (v : ℕ) → last ≤ v → ¬ (last ≡ v) → v < limit → ((i : ℕ) → M i ↔ And N v i) → Tally N limit last count → Tally M limit v (suc count)
tally_more {N} {M} {limit} {last} v h k b f t = record {
  counted = many_same (λ i l. ((f i).1, (f i).0)) (many_more v b (λ z. fresh (t.none_above v z)) t.counted);
  none_above = λ n z. ⊎_elim (λ y. after (t.none_above n y)) (λ e. same e) ((f n).0 z);
  from_1 = λ n z. ⊎_elim (λ y. t.from_1 n y) (λ e. one e) ((f n).0 z);
  last_came = λ l. (f v).1 (inr refl);
}
  where
    fresh : v ≤ last → ⊥
    fresh l = omega arith

    after : {n : ℕ} → n ≤ last → n ≤ v
    after l = omega arith

    same : {n : ℕ} → n ≡ v → n ≤ v
    same e = omega arith

    one : {n : ℕ} → n ≡ v → 1 ≤ n
    one e = omega arith

-- nothing came for this pair
pub tally_same : {N M : ℕ → Type 0} {limit last count : ℕ} → ((i : ℕ) → M i ↔ N i) → Tally N limit last count → Tally M limit last count
tally_same f t = record { counted = many_same (λ i l. ((f i).1, (f i).0)) t.counted; none_above = λ n z. t.none_above n ((f n).0 z); from_1 = λ n z. t.from_1 n ((f n).0 z); last_came = λ l. (f _).1 (t.last_came l) }

-- SUPPORT: if the numbers that came are those of the vehicles with the pattern (from 1), the count is the support
decide : {N : ℕ → Type 0} {n c : ℕ} → HowMany N n c → (i : ℕ) → i < n → Dec (N i)
decide none i h = absurd (omega arith)
decide {N} (one_more {n = n} m r) i h = go (ℕ_discrete i n) (λ l. decide r i l)
  where
    go : Dec (i ≡ n) → (i < n → Dec (N i)) → Dec (N i)
    go (yes e) f = yes (rw e m)
    go (no e) f = f (omega arith)
decide {N} (not_this {n = n} m r) i h = go (ℕ_discrete i n) (λ l. decide r i l)
  where
    go : Dec (i ≡ n) → (i < n → Dec (N i)) → Dec (N i)
    go (yes e) f = no (λ z. m (rw e at z))
    go (no e) f = f (omega arith)

-- as a count of decisions
many_counts : {N Q : ℕ → Type 0} {n c : ℕ} (d : (i : ℕ) → Dec (Q i)) → ((i : ℕ) → i < n → Q i ↔ N i) → HowMany N n c → count_below d n ≡ c
unfolding count_below
many_counts d f none = refl
many_counts d f (one_more {n = n} m r) = omega (arith, counted_yes ((f n (omega arith)).1 m) (d n), many_counts d (λ i l. f i (omega arith)) r)
many_counts {Q = Q} d f (not_this {n = n} m r) = omega (arith, counted_no (λ (z : Q n). m ((f n (omega arith)).0 z)) (d n), many_counts d (λ i l. f i (omega arith)) r)

pub tally_support : {N : ℕ → Type 0} {last count : ℕ} (fleet p : List ℕ) → ((i : ℕ) → i < length (vehicles fleet) → Occurs p (get_or (vehicles fleet) i []) ↔ N (suc i)) → Tally N (suc (length (vehicles fleet))) last count → whole_support fleet p ≡ count
tally_support {N} {last} {count} fleet p f t = omega (arith, all, shift d len, zero_out, support_counts fleet p (λ i. d (suc i)) so)
  where
    len : ℕ
    len = length (vehicles fleet)

    Q : ℕ → Type 0
    Q i = (i < suc len) × N i

    d : (i : ℕ) → Dec (Q i)
    d i = go (dec_lt i (suc len))
      where
        at : i < suc len → Dec (N i) → Dec (Q i)
        at h (yes z) = yes (h, z)
        at h (no z) = no (λ q. z q.1)

        go : Dec (i < suc len) → Dec (Q i)
        go (yes h) = at h (decide t.counted i h)
        go (no h) = no (λ q. h q.0)

    all : count_below d (suc len) ≡ count
    all = many_counts d (λ i h. ((λ (q : Q i). q.1), (λ z. (h, z)))) t.counted

    zero_out : counted (d 0) ≡ 0
    zero_out = counted_no (λ (q : Q 0). omega (arith, t.from_1 0 q.1)) (d 0)

    so : (i : ℕ) → i < len → Occurs p (get_or (vehicles fleet) i []) ↔ Q (suc i)
    so i h = ((λ o. (omega arith, (f i h).0 o)), (λ (q : Q (suc i)). (f i h).1 q.1))

-- AT MOST: if all numbers that came are those of vehicles with the pattern, the count is no more than the support
many_at_most : {N Q : ℕ → Type 0} {n c : ℕ} (d : (i : ℕ) → Dec (Q i)) → ((i : ℕ) → i < n → N i → Q i) → HowMany N n c → c ≤ count_below d n
unfolding count_below
many_at_most d f none = omega arith
many_at_most d f (one_more {n = n} m r) = omega (arith, counted_yes (f n (omega arith) m) (d n), many_at_most d (λ i l. f i (omega arith)) r)
many_at_most d f (not_this m r) = omega (arith, many_at_most d (λ i l. f i (omega arith)) r)

pub tally_at_most : {N : ℕ → Type 0} {last count : ℕ} (fleet p : List ℕ) → ((i : ℕ) → i < length (vehicles fleet) → N (suc i) → Occurs p (get_or (vehicles fleet) i [])) → Tally N (suc (length (vehicles fleet))) last count → count ≤ whole_support fleet p
tally_at_most {N} {last} {count} fleet p f t = omega (arith, many_at_most d held t.counted, shift d len, counted_no (λ (q : Q 0). q) (d 0), support_counts fleet p (λ i. d (suc i)) (λ i h. ((λ o. o), (λ o. o))))
  where
    len : ℕ
    len = length (vehicles fleet)

    Q : ℕ → Type 0
    Q zero = ⊥
    Q (suc i) = Occurs p (get_or (vehicles fleet) i [])

    d : (i : ℕ) → Dec (Q i)
    d zero = no (λ q. q)
    d (suc i) = occurs? p (get_or (vehicles fleet) i [])

    held : (i : ℕ) → i < suc len → N i → Q i
    held zero h n = omega (arith, t.from_1 0 n)
    held (suc i) h n = f i (omega arith) n

-- so many at most
few : {N : ℕ → Type 0} {n c : ℕ} → ¬ N 0 → HowMany N n c → c ≤ n - 1
few h none = omega arith
few {N} h (one_more {n = n} {c = c} m r) = go (ℕ_discrete n 0) (few h r)
  where
    go : Dec (n ≡ 0) → c ≤ n - 1 → suc c ≤ suc n - 1
    go (yes e) q = absurd (h (rw e at m))
    go (no e) q = omega arith
few h (not_this m r) = omega (arith, few h r)

pub tally_few : {N : ℕ → Type 0} {m last count : ℕ} → Tally N (suc m) last count → count ≤ m
tally_few {N} t = omega (arith, few (λ z. zero_not z) t.counted)
  where
    zero_not : ¬ N 0
    zero_not z = omega (arith, t.from_1 0 z)
