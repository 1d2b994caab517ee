-- LAWS. The list of a set of forms with a count: there is at most one, and one of a decided, bounded set; what is the lightest, and the next.
use mathlib.Core.Path.{◌≡◌, refl, sym, ap, ◌∙◌}
use mathlib.Core.List.{List, [], ◌∷◌}
use mathlib.Core.Option.{Option, none, some}
use Prim.Native.Nat.{ℕ, zero, suc, ◌≤◌, ◌<◌}
use native.Mathlib.Omega.{arith}
use native.Mathlib.Decide.{dec_lt}
use lib.ListN.{length, get_or}
use Rattle.terms.specs.Order.{Lighter}
use Rattle.terms.specs.Lightest.{Lightest, the_lightest, none_at_all}
use Rattle.terms.proofs.OrderLaws.{lighter_irrefl, lighter_trans}
use Rattle.terms.proofs.Collect.{Collected, collect, member_at, at_member, asc_at}
use Rattle.search.specs.Counted.{Entry, Counted}
use Rattle.search.specs.Finite.{Finite}
use Rattle.noting.specs.Noting.{pair_limit}
use Rattle.listing.specs.Listing.{no_entry, formAt, IsListOf, PartOf, nothing, kept, left_out}

-- two lists of entries in ascending order that hold the same entries are equal
abbrev pub Rising : List Entry → Type 0
Rising L = (i j : ℕ) → i < j → j < length L → Lighter (formAt L i) (formAt L j)

pub record HasEntry (L : List Entry) (e : Entry) : Type 0 where
  pub place : ℕ
  pub inside : place < length L
  pub is : get_or L place no_entry ≡ e

rising_tail : (e : Entry) (L : List Entry) → Rising (e ∷ L) → Rising L
rising_tail e L r i j h k = r (suc i) (suc j) (omega arith) (omega arith)

has_later : (e : Entry) {x : Entry} {L : List Entry} → HasEntry L x → HasEntry (e ∷ L) x
has_later e h = record { place = suc h.place; inside = omega (arith, h.inside); is = h.is }

-- what the tail has is heavier than the head
over_head : {e x : Entry} {L : List Entry} → Rising (e ∷ L) → HasEntry L x → Lighter e.form x.form
over_head {e} {x} {L} r h = rw (ap (λ (z : Entry). z.form) h.is) at (r 0 (suc h.place) (omega arith) (omega (arith, h.inside)))

data HeadOrTail (e : Entry) (L : List Entry) (x : Entry) : Type 0 where
  is_head : e ≡ x → HeadOrTail e L x
  in_tail : HasEntry L x → HeadOrTail e L x

head_or_tail : {e x : Entry} {L : List Entry} → HasEntry (e ∷ L) x → HeadOrTail e L x
head_or_tail {e} {x} {L} h = go h.place h.inside h.is
  where
    go : (i : ℕ) → i < suc (length L) → get_or (e ∷ L) i no_entry ≡ x → HeadOrTail e L x
    go zero a b = is_head b
    go (suc i) a b = in_tail (record { place = i; inside = omega arith; is = b })

has_head : (e : Entry) (L : List Entry) → HasEntry (e ∷ L) e
has_head e L = record { place = 0; inside = omega arith; is = refl }

-- the tail of one has what the tail of the other has
tail_has : {k l : Entry} {K L : List Entry} → k ≡ l → Rising (k ∷ K) → ((e : Entry) → HasEntry (k ∷ K) e → HasEntry (l ∷ L) e) → (e : Entry) → HasEntry K e → HasEntry L e
tail_has {k} {l} {K} {L} same r f e h = go (head_or_tail (f e (has_later k h)))
  where
    go : HeadOrTail l L e → HasEntry L e
    go (in_tail z) = z
    go (is_head q) = absurd (lighter_irrefl e.form (rw (same ∙ q) at (over_head r h)))

pub rising_unique : (K L : List Entry) → Rising K → Rising L → ((e : Entry) → HasEntry K e → HasEntry L e) → ((e : Entry) → HasEntry L e → HasEntry K e) → K ≡ L
rising_unique [] [] a b f g = refl
rising_unique [] (l ∷ L) a b f g = absurd (omega (arith, (g l (has_head l L)).inside))
rising_unique (k ∷ K) [] a b f g = absurd (omega (arith, (f k (has_head k K)).inside))
rising_unique (k ∷ K) (l ∷ L) a b f g = cc (same, rising_unique K L (rising_tail k K a) (rising_tail l L b) (tail_has same a f) (tail_has (sym same) b g))
  where
    same : k ≡ l
    same = go (head_or_tail (f k (has_head k K))) (head_or_tail (g l (has_head l L)))
      where
        go : HeadOrTail l L k → HeadOrTail k K l → k ≡ l
        go (is_head e) _ = sym e
        go (in_tail h) (is_head e) = e
        go (in_tail h) (in_tail h') = absurd (lighter_irrefl l.form (lighter_trans (over_head b h) (over_head a h')))

-- a rising list whose entries another has is a part of it
pub rising_part : (K L : List Entry) → Rising K → Rising L → ((e : Entry) → HasEntry K e → HasEntry L e) → PartOf K L
rising_part [] [] a b f = nothing
rising_part [] (l ∷ L) a b f = left_out (rising_part [] L a (rising_tail l L b) (λ e h. absurd (omega (arith, h.inside))))
rising_part (k ∷ K) [] a b f = absurd (omega (arith, (f k (has_head k K)).inside))
rising_part (k ∷ K) (l ∷ L) a b f = go (λ g. rising_part K L (rising_tail k K a) (rising_tail l L b) g) (λ g. rising_part (k ∷ K) L a (rising_tail l L b) g) (head_or_tail (f k (has_head k K)))
  where
    -- the head comes later, and with it all others
    later : HasEntry L k → (e : Entry) → HeadOrTail k K e → HeadOrTail l L e → HasEntry L e
    later h e _ (in_tail z) = z
    later h e (is_head q) (is_head _) = rw q at h
    later h e (in_tail z) (is_head q) = absurd (lighter_irrefl l.form (lighter_trans (over_head b h) (rw (sym q) at (over_head a z))))

    go : (((e : Entry) → HasEntry K e → HasEntry L e) → PartOf K L) → (((e : Entry) → HasEntry (k ∷ K) e → HasEntry L e) → PartOf (k ∷ K) L) → HeadOrTail l L k → PartOf (k ∷ K) (l ∷ L)
    go both one (is_head q) = rw q (kept (both (tail_has (sym q) a f)))
    go both one (in_tail h) = left_out (one (λ e z. later h e (head_or_tail z) (head_or_tail (f e z))))

-- an entry that belongs on the list
pub record Belongs (set : Counted) (e : Entry) : Type 0 where
  pub holds : set.Holds e.form
  pub counted : e.held ≡ set.count e.form

pub has_belongs : {set : Counted} {L : List Entry} → IsListOf set L → (e : Entry) → HasEntry L e → Belongs set e
has_belongs {set} {L} l e h = rw h.is at b
  where
    b : Belongs set (get_or L h.place no_entry)
    b = record { holds = l.all_held h.place h.inside; counted = l.with_count h.place h.inside }

pub entry_path : {d e : Entry} → d.form ≡ e.form → d.held ≡ e.held → d ≡ e
entry_path p q = λ i. record { form = p i; held = q i }

pub belongs_has : {set : Counted} {L : List Entry} → IsListOf set L → (e : Entry) → Belongs set e → HasEntry L e
belongs_has {set} {L = L} l e b =
    let z = l.none_missing e.form b.holds in
    record { place = z.0; inside = z.1; is = entry_path z.2 (l.with_count z.0 z.1 ∙ ap set.count z.2 ∙ sym b.counted) }

pub list_unique : {set : Counted} {K L : List Entry} → IsListOf set K → IsListOf set L → K ≡ L
list_unique {K = K} {L = L} a b = rising_unique K L a.lightest_first b.lightest_first
    (λ e h. belongs_has b e (has_belongs a e h)) (λ e h. belongs_has a e (has_belongs b e h))

-- the list of a part of a set is a part of its list
pub list_part : {set other : Counted} {K L : List Entry} → IsListOf set K → IsListOf other L → ((e : Entry) → Belongs set e → Belongs other e) → PartOf K L
list_part {K = K} {L = L} a b f = rising_part K L a.lightest_first b.lightest_first (λ e h. belongs_has b e (f e (has_belongs a e h)))

-- a list of one set is a list of every set to which the same entries belong
pub list_other : {set other : Counted} {L : List Entry} → IsListOf set L → ((e : Entry) → Belongs set e → Belongs other e) → ((e : Entry) → Belongs other e → Belongs set e) → IsListOf other L
list_other {set} {other} {L} l f g = record {
  lightest_first = l.lightest_first;
  all_held = λ i h. (at i h).holds;
  with_count = λ i h. (at i h).counted;
  none_missing = λ form k. let z = belongs_has l (record { form = form; held = other.count form }) (g _ (record { holds = k; counted = refl })) in (z.place, z.inside, ap (λ (e : Entry). e.form) z.is);
}
  where
    at : (i : ℕ) → i < length L → Belongs other (get_or L i no_entry)
    at i h = f (get_or L i no_entry) (has_belongs l (get_or L i no_entry) (record { place = i; inside = h; is = refl }))

-- the list exists
with_counts : (List ℕ → ℕ) → List (List ℕ) → List Entry
with_counts count [] = []
with_counts count (f ∷ fs) = record { form = f; held = count f } ∷ with_counts count fs

counts_length : (count : List ℕ → ℕ) (fs : List (List ℕ)) → length (with_counts count fs) ≡ length fs
unfolding with_counts
counts_length count [] = refl
counts_length count (f ∷ fs) = ap suc (counts_length count fs)

counts_at : (count : List ℕ → ℕ) (fs : List (List ℕ)) (i : ℕ) → i < length fs → get_or (with_counts count fs) i no_entry ≡ record { form = get_or fs i []; held = count (get_or fs i []) }
unfolding with_counts
counts_at count [] i h = absurd (omega arith)
counts_at count (f ∷ fs) zero h = refl
counts_at count (f ∷ fs) (suc i) h = counts_at count fs i (omega arith)

pub list_exists : {set : Counted} → Finite set → (L : List Entry) × IsListOf set L
list_exists {set} f = (
  with_counts set.count c.all,
  record {
    lightest_first = λ i j h k. rw (form i (omega (arith, len)), form j (omega (arith, len))) (asc_at c.ascending i j h (omega (arith, len)));
    all_held = λ i h. rw (form i (omega (arith, len))) (c.sound (get_or c.all i []) (at_member c.all i (omega (arith, len))));
    with_count = λ i h. ap (λ (e : Entry). e.held) (counts_at set.count c.all i (omega (arith, len))) ∙ ap set.count (sym (form i (omega (arith, len))));
    none_missing = λ s l. let z = member_at (c.complete s (f.within s l).0 (f.within s l).1 l) in let q = z.1 in (z.0, omega (arith, len), form z.0 q ∙ z.2);
  },
)
  where
    c : Collected pair_limit f.most set.Holds
    c = collect pair_limit f.most set.Holds f.decide

    len : length (with_counts set.count c.all) ≡ length c.all
    len = counts_length set.count c.all

    form : (i : ℕ) → i < length c.all → formAt (with_counts set.count c.all) i ≡ get_or c.all i []
    form i h = ap (λ (e : Entry). e.form) (counts_at set.count c.all i h)

-- the form at a place of the list, if it goes so far
unfoldable pub form_at : List Entry → ℕ → Option (List ℕ)
form_at [] n = none
form_at (e ∷ L) zero = some e.form
form_at (e ∷ L) (suc n) = form_at L n

pub form_in : (L : List Entry) (n : ℕ) → n < length L → form_at L n ≡ some (formAt L n)
unfolding form_at
form_in [] n h = absurd (omega arith)
form_in (e ∷ L) zero h = refl
form_in (e ∷ L) (suc n) h = form_in L n (omega arith)

pub form_past : (L : List Entry) (n : ℕ) → length L ≤ n → form_at L n ≡ none
unfolding form_at
form_past [] n h = refl
form_past (e ∷ L) zero h = absurd (omega arith)
form_past (e ∷ L) (suc n) h = form_past L n (omega arith)

pub record FoundAt (L : List Entry) (n : ℕ) (f : List ℕ) : Type 0 where
  pub inside : n < length L
  pub is : formAt L n ≡ f

pub form_at_some : (L : List Entry) (n : ℕ) (f : List ℕ) → form_at L n ≡ some f → FoundAt L n f
form_at_some L n f e = go (dec_lt n (length L))
  where
    go : Dec (n < length L) → FoundAt L n f
    go (yes h) = let p = form_in L n h in record { inside = h; is = cc }
    go (no h) = let p = form_past L n (omega arith) in let z : ◌≡◌ {A = ℕ} 0 1 = cc in absurd (omega arith)

pub form_at_none : (L : List Entry) (n : ℕ) → form_at L n ≡ none → length L ≤ n
form_at_none L n e = go (dec_lt n (length L))
  where
    go : Dec (n < length L) → length L ≤ n
    go (yes h) = let p = form_in L n h in let z : ◌≡◌ {A = ℕ} 0 1 = cc in absurd (omega arith)
    go (no h) = omega arith

-- the lightest of a part of the set is the first of the list that is in that part
pub at_lightest : {set : Counted} {L : List Entry} (Among : List ℕ → Type 0) → IsListOf set L → (n : ℕ) → ((f : List ℕ) → Among f → set.Holds f)
    → ((k : ℕ) → k < n → k < length L → ¬ Among (formAt L k)) → (n < length L → Among (formAt L n)) → Lightest Among (form_at L n)
at_lightest {set} {L} Among l n sub before here = go (dec_lt n (length L))
  where
    Place : List ℕ → Type 0
    Place f = (i : ℕ) × (i < length L) × (formAt L i ≡ f)

    not_before : (f : List ℕ) → Among f → (z : Place f) → z.0 < n → ⊥
    not_before f a z h = before z.0 h z.1 (rw z.2 a)

    not_after : (f : List ℕ) (z : Place f) → n < length L → Dec (n < z.0) → Dec (z.0 < n) → Among f → ¬ Lighter f (formAt L n)
    not_after f z h (yes p) _ a q = lighter_irrefl f (lighter_trans q (rw z.2 at (l.lightest_first n z.0 p z.1)))
    not_after f z h (no p) (yes r) a q = not_before f a z r
    not_after f z h (no p) (no r) a q = let e : n ≡ z.0 = omega arith in let e' : formAt L n ≡ f = ap (formAt L) e ∙ z.2 in lighter_irrefl f (rw e' at q)

    go : Dec (n < length L) → Lightest Among (form_at L n)
    go (yes h) = rw (form_in L n h) (the_lightest (here h) (λ f a. let z : Place f = l.none_missing f (sub f a) in not_after f z h (dec_lt n z.0) (dec_lt z.0 n) a))
    go (no h) = rw (form_past L n (omega arith)) (none_at_all (λ f a. let z : Place f = l.none_missing f (sub f a) in let b : z.0 < length L = z.1 in not_before f a z (omega arith)))

-- "lightest first": the first of the list, and after the form at k that at k + 1
pub first_lightest : {set : Counted} {L : List Entry} → IsListOf set L → Lightest set.Holds (form_at L 0)
first_lightest {set} l = at_lightest set.Holds l 0 (λ f h. h) (λ k a. absurd (omega arith)) (λ h. l.all_held 0 h)

pub next_lightest : {set : Counted} {L : List Entry} → IsListOf set L → (k : ℕ) → k < length L → Lightest (λ f. set.Holds f × Lighter (formAt L k) f) (form_at L (suc k))
next_lightest {set} {L} l k h = at_lightest (λ f. set.Holds f × Lighter (formAt L k) f) l (suc k) (λ f a. a.0) before (λ b. (l.all_held (suc k) b, l.lightest_first k (suc k) (omega arith) b))
  where
    before : (j : ℕ) → j < suc k → j < length L → ¬ (set.Holds (formAt L j) × Lighter (formAt L k) (formAt L j))
    before j a b q = go (dec_lt j k)
      where
        go : Dec (j < k) → ⊥
        go (yes c) = lighter_irrefl (formAt L k) (lighter_trans q.1 (l.lightest_first j k c h))
        go (no c) = let e : j ≡ k = omega arith in lighter_irrefl (formAt L k) (rw e at q.1)
