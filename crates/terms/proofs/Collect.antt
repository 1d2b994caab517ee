-- LAWS. The sequences of bounded length and numbers that have a decided property, in ascending order, each once.
use mathlib.Core.Path.{◌≡◌, refl, sym, ap}
use mathlib.Core.List.{List, [], ◌∷◌, ◌++◌}
use Prim.Native.Nat.{ℕ, zero, suc, ◌≤◌, ◌<◌}
use native.Mathlib.Omega.{arith}
use native.Mathlib.Decide.{dec_lt}
use lib.ListN.{length, get_or}
use Rattle.terms.specs.Order.{Lighter, shorter, differ, agree}
use Rattle.terms.proofs.Decide.{AllBelow, all_below_tail}

pub data Member (s : List ℕ) : List (List ℕ) → Type 0 where
  first : {t : List ℕ} {L : List (List ℕ)} → t ≡ s → Member s (t ∷ L)
  later : {t : List ℕ} {L : List (List ℕ)} → Member s L → Member s (t ∷ L)

pub data Ascending : List (List ℕ) → Type 0 where
  asc_nil : Ascending []
  asc_cons : {s : List ℕ} {L : List (List ℕ)} → ((t : List ℕ) → Member t L → Lighter s t) → Ascending L → Ascending (s ∷ L)

member_left : {s : List ℕ} {K : List (List ℕ)} (L : List (List ℕ)) → Member s K → Member s (K ++ L)
member_left L (first e) = first e
member_left L (later m) = later (member_left L m)

member_right : {s : List ℕ} (K : List (List ℕ)) {L : List (List ℕ)} → Member s L → Member s (K ++ L)
member_right [] m = m
member_right (t ∷ K) m = later (member_right K m)

data Either (s : List ℕ) (K L : List (List ℕ)) : Type 0 where
  in_left : Member s K → Either s K L
  in_right : Member s L → Either s K L

either : {s : List ℕ} (K L : List (List ℕ)) → Member s (K ++ L) → Either s K L
either [] L m = in_right m
either (t ∷ K) L (first e) = in_left (first e)
either {s} (t ∷ K) L (later m) = go (either K L m)
  where
    go : Either s K L → Either s (t ∷ K) L
    go (in_left h) = in_left (later h)
    go (in_right h) = in_right h

asc_append : {K L : List (List ℕ)} → Ascending K → Ascending L → ((s t : List ℕ) → Member s K → Member t L → Lighter s t) → Ascending (K ++ L)
asc_append asc_nil b f = b
asc_append {L = L} (asc_cons {s = s} {L = K} h a) b f = asc_cons (λ t m. go t (either K L m)) (asc_append a b (λ x y m n. f x y (later m) n))
  where
    go : (t : List ℕ) → Either t K L → Lighter s t
    go t (in_left m) = h t m
    go t (in_right m) = f s t (first refl) m

-- a number in front of each
each_with : ℕ → List (List ℕ) → List (List ℕ)
each_with x [] = []
each_with x (s ∷ L) = (x ∷ s) ∷ each_with x L

with_member : (x : ℕ) {s : List ℕ} {L : List (List ℕ)} → Member s L → Member (x ∷ s) (each_with x L)
unfolding each_with
with_member x (first e) = first (ap (λ (t : List ℕ). x ∷ t) e)
with_member x (later m) = later (with_member x m)

record Behind (x : ℕ) (L : List (List ℕ)) (s : List ℕ) : Type 0 where
  tail : List ℕ
  member : Member tail L
  is : s ≡ x ∷ tail

member_with : (x : ℕ) {s : List ℕ} (L : List (List ℕ)) → Member s (each_with x L) → Behind x L s
unfolding each_with
member_with x {s = s} [] x'' = elim x'' [ ]
member_with x (t ∷ L) (first e) = record { tail = t; member = first refl; is = sym e }
member_with x (t ∷ L) (later m) = let z = member_with x L m in record { tail = z.tail; member = later z.member; is = z.is }

asc_with : (x : ℕ) {L : List (List ℕ)} → Ascending L → Ascending (each_with x L)
unfolding each_with
asc_with x asc_nil = asc_nil
asc_with x (asc_cons {s = s} {L = L} h a) = asc_cons over (asc_with x a)
  where
    over : (t : List ℕ) → Member t (each_with x L) → Lighter (x ∷ s) t
    over t m = let z = member_with x L m in rw z.is (agree refl (h z.tail z.member))

-- all that have P among the sequences of at most n numbers below a limit
pub record Collected (limit n : ℕ) (P : List ℕ → Type 0) : Type 0 where
  pub all : List (List ℕ)
  pub ascending : Ascending all
  pub sound : (s : List ℕ) → Member s all → P s
  pub complete : (s : List ℕ) → length s ≤ n → AllBelow limit s → P s → Member s all

-- those that are empty or begin below k
record Heads (limit n k : ℕ) (P : List ℕ → Type 0) : Type 0 where
  all : List (List ℕ)
  ascending : Ascending all
  sound : (s : List ℕ) → Member s all → P s
  begin : (x : ℕ) (s : List ℕ) → Member (x ∷ s) all → x < k
  complete : (s : List ℕ) → length s ≤ suc n → AllBelow limit s → (0 < length s → get_or s 0 0 < k) → P s → Member s all

pub member_some : {s : List ℕ} {L : List (List ℕ)} → Member s L → 0 < length L
member_some (first e) = omega arith
member_some (later m) = omega arith

base : (limit n : ℕ) (P : List ℕ → Type 0) → Dec (P []) → Heads limit n 0 P
base limit n P (yes p) = record { all = [] ∷ []; ascending = asc_cons (λ t m. absurd (none t m)) asc_nil; sound = sd; begin = bg; complete = cp }
  where
    none : (t : List ℕ) → Member t [] → ⊥
    none t m = omega (arith, member_some m)

    sd : (s : List ℕ) → Member s ([] ∷ []) → P s
    sd s (first e) = rw (← e) p
    sd s (later m) = absurd (none s m)

    bg : (x : ℕ) (s : List ℕ) → Member (x ∷ s) ([] ∷ []) → x < 0
    bg x s (first e) = absurd (omega (arith, ap length e))
    bg x s (later m) = absurd (none (x ∷ s) m)

    cp : (s : List ℕ) → length s ≤ suc n → AllBelow limit s → (0 < length s → get_or s 0 0 < 0) → P s → Member s ([] ∷ [])
    cp [] h b k q = first refl
    cp (x ∷ s) h b k q = absurd (omega (arith, k (omega arith)))
base limit n P (no p) = record { all = []; ascending = asc_nil; sound = λ s m. absurd (omega (arith, member_some m)); begin = λ x s m. absurd (omega (arith, member_some m)); complete = cp }
  where
    cp : (s : List ℕ) → length s ≤ suc n → AllBelow limit s → (0 < length s → get_or s 0 0 < 0) → P s → Member s []
    cp [] h b k q = absurd (p q)
    cp (x ∷ s) h b k q = absurd (omega (arith, k (omega arith)))

onward : (limit n k : ℕ) (P : List ℕ → Type 0) → Heads limit n k P → Collected limit n (λ s. P (k ∷ s)) → Heads limit n (suc k) P
onward limit n k P h c = record { all = h.all ++ more; ascending = asc_append h.ascending (asc_with k c.ascending) over; sound = λ s m. sd s (either h.all more m); begin = λ x s m. bg x s (either h.all more m); complete = cp }
  where
    more : List (List ℕ)
    more = each_with k c.all

    over : (s t : List ℕ) → Member s h.all → Member t more → Lighter s t
    over [] t m m' = rw (member_with k c.all m').is shorter
    over (x ∷ s) t m m' = rw (member_with k c.all m').is (differ (h.begin x s m))

    sd : (s : List ℕ) → Either s h.all more → P s
    sd s (in_left m) = h.sound s m
    sd s (in_right m) = let z = member_with k c.all m in rw z.is (c.sound z.tail z.member)

    bg : (x : ℕ) (s : List ℕ) → Either (x ∷ s) h.all more → x < suc k
    bg x s (in_left m) = omega (arith, h.begin x s m)
    bg x s (in_right m) = omega (arith, ap (λ (l : List ℕ). get_or l 0 0) (member_with k c.all m).is)

    cp : (s : List ℕ) → length s ≤ suc n → AllBelow limit s → (0 < length s → get_or s 0 0 < suc k) → P s → Member s (h.all ++ more)
    cp [] l b q p = member_left more (h.complete [] l b (λ z. absurd (omega arith)) p)
    cp (x ∷ s) l b q p = go (dec_lt x k)
      where
        go : Dec (x < k) → Member (x ∷ s) (h.all ++ more)
        go (yes e) = member_left more (h.complete (x ∷ s) l b (λ _. e) p)
        go (no e) =
            let f : x ≡ k = omega (arith, q (omega arith)) in
            let p' : P (k ∷ s) = rw f at p in
            let w : Member (k ∷ s) (h.all ++ more) = member_right h.all (with_member k (c.complete s (omega arith) (all_below_tail limit x s b) p')) in
            rw f w

heads : (limit n : ℕ) (P : List ℕ → Type 0) → Dec (P []) → ((x : ℕ) → Collected limit n (λ s. P (x ∷ s))) → (k : ℕ) → Heads limit n k P
heads limit n P d c zero = base limit n P d
heads limit n P d c (suc k) = onward limit n k P (heads limit n P d c k) (c k)

pub collect : (limit n : ℕ) (P : List ℕ → Type 0) → ((s : List ℕ) → Dec (P s)) → Collected limit n P
collect limit zero P d = let h = base limit 0 P (d []) in record { all = h.all; ascending = h.ascending; sound = h.sound; complete = λ s l b p. h.complete s (omega arith) b (λ q. absurd (omega arith)) p }
collect limit (suc n) P d =
    let h = heads limit n P (d []) (λ x. collect limit n (λ s. P (x ∷ s)) (λ s. d (x ∷ s))) limit in
    record { all = h.all; ascending = h.ascending; sound = h.sound; complete = λ s l b p. h.complete s l b (λ q. b 0 q) p }

-- by indices
pub member_at : {s : List ℕ} {L : List (List ℕ)} → Member s L → (i : ℕ) × (i < length L) × (get_or L i [] ≡ s)
member_at (first e) = (0, omega arith, e)
member_at (later m) = let z = member_at m in let q = z.1 in (suc z.0, omega arith, z.2)

pub at_member : (L : List (List ℕ)) (i : ℕ) → i < length L → Member (get_or L i []) L
at_member [] i h = absurd (omega arith)
at_member (s ∷ L) zero h = first refl
at_member (s ∷ L) (suc i) h = later (at_member L i (omega arith))

pub asc_at : {L : List (List ℕ)} → Ascending L → (i j : ℕ) → i < j → j < length L → Lighter (get_or L i []) (get_or L j [])
asc_at asc_nil i j h k = absurd (omega arith)
asc_at (asc_cons f a) i zero h k = absurd (omega arith)
asc_at (asc_cons {L = L} f a) zero (suc j) h k = f (get_or L j []) (at_member L j (omega arith))
asc_at (asc_cons f a) (suc i) (suc j) h k = asc_at a i j (omega arith) (omega arith)
