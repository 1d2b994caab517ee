-- LAWS. A search over the sequences of pairs that a fleet's labels allow: enough for every listed form. It computes for small fleets.
use mathlib.Core.Path.{◌≡◌, refl, ap}
use mathlib.Core.List.{List, [], ◌∷◌, ◌++◌}
use Prim.Native.Nat.{ℕ, zero, suc, ◌+◌, ◌*◌, ◌%◌, ◌≤◌, ◌<◌}
use native.Mathlib.Omega.{arith}
use native.Mathlib.Decide.{dec_lt, ℕ_discrete}
use lib.ListN.{length, get_or}
use Rattle.terms.specs.Tree.{depthAt, label_at, IsTree}
use Rattle.terms.specs.Order.{Lighter}
use Rattle.terms.specs.Matching.{placeAt}
use Rattle.terms.specs.Remarks.{HeldBy}
use Rattle.terms.specs.Fleet.{vehicles, in_front}
use Rattle.terms.proofs.Decide.{both?, map?, not?}
use Rattle.terms.proofs.OrderLaws.{lighter?}
use Rattle.terms.proofs.RemarkLaws.{held_by?}
use Rattle.occurrence.specs.Support.{counted, holding, support}
use Rattle.listing.specs.Listing.{Asked, Listed}
use Rattle.listing.specs.ListedSelected.{listed?, listed_form}

pub data In (x : ℕ) : List ℕ → Type 0 where
  in_here : {y : ℕ} {A : List ℕ} → y ≡ x → In x (y ∷ A)
  in_later : {y : ℕ} {A : List ℕ} → In x A → In x (y ∷ A)

pub in_some : {x : ℕ} {A : List ℕ} → In x A → 0 < length A
in_some (in_here e) = omega arith
in_some (in_later h) = omega arith

pub in_left : {x : ℕ} {A : List ℕ} (B : List ℕ) → In x A → In x (A ++ B)
in_left B (in_here e) = in_here e
in_left B (in_later h) = in_later (in_left B h)

pub in_right : {x : ℕ} (A : List ℕ) {B : List ℕ} → In x B → In x (A ++ B)
in_right [] h = h
in_right (y ∷ A) h = in_later (in_right A h)

-- every number of u is one of A
abbrev pub Over : List ℕ → List ℕ → Type 0
Over A u = (i : ℕ) → i < length u → In (get_or u i 0) A

unfoldable pub some_in? : (P : ℕ → Type 0) → ((x : ℕ) → Dec (P x)) → (A : List ℕ) → Dec ((x : ℕ) × In x A × P x)
some_in? P d [] = no (λ z. let h = z.1 in omega (arith, in_some h))
some_in? P d (y ∷ A) = go (d y) (some_in? P d A)
  where
    not_later : ¬ P y → ¬ ((x : ℕ) × In x A × P x) → (x : ℕ) → In x (y ∷ A) → P x → ⊥
    not_later h k x (in_here e) q = h (rw (← e) at q)
    not_later h k x (in_later i) q = k (x, i, q)

    go : Dec (P y) → Dec ((x : ℕ) × In x A × P x) → Dec ((x : ℕ) × In x (y ∷ A) × P x)
    go (yes p) _ = yes (y, in_here refl, p)
    go (no h) (yes z) = yes (z.0, in_later z.1, z.2)
    go (no h) (no k) = no (λ z. not_later h k z.0 z.1 z.2)

unfoldable pub some_word? : (A : List ℕ) (n : ℕ) (P : List ℕ → Type 0) → ((u : List ℕ) → Dec (P u)) → Dec ((u : List ℕ) × (length u ≤ n) × Over A u × P u)
unfolding some_in?
some_word? A zero P d = go (d [])
  where
    only : ¬ P [] → (u : List ℕ) → length u ≤ 0 → P u → ⊥
    only h [] b q = h q
    only h (x ∷ u) b q = omega arith

    go : Dec (P []) → Dec ((u : List ℕ) × (length u ≤ 0) × Over A u × P u)
    go (yes p) = yes ([], omega arith, (λ i h. absurd (omega arith)), p)
    go (no h) = no (λ z. only h z.0 z.1 z.3)
some_word? A (suc n) P d = go (d []) (some_in? (λ x. (u : List ℕ) × (length u ≤ n) × Over A u × P (x ∷ u)) (λ x. some_word? A n (λ u. P (x ∷ u)) (λ u. d (x ∷ u))) A)
  where
    Tail : ℕ → Type 0
    Tail x = (u : List ℕ) × (length u ≤ n) × Over A u × P (x ∷ u)

    no_more : ¬ P [] → ¬ ((x : ℕ) × In x A × Tail x) → (u : List ℕ) → length u ≤ suc n → Over A u → P u → ⊥
    no_more h k [] b o q = h q
    no_more h k (x ∷ u) b o q = k (x, o 0 (omega arith), (u, omega arith, (λ i c. o (suc i) (omega arith)), q))

    longer : (x : ℕ) → In x A → (u : List ℕ) → Over A u → Over A (x ∷ u)
    longer x h u o zero b = h
    longer x h u o (suc i) b = o i (omega arith)

    go : Dec (P []) → Dec ((x : ℕ) × In x A × Tail x) → Dec ((u : List ℕ) × (length u ≤ suc n) × Over A u × P u)
    go (yes p) _ = yes ([], omega arith, (λ i h. absurd (omega arith)), p)
    go (no h) (yes z) = let t = z.2 in let l : length t.0 ≤ n = t.1 in yes (z.0 ∷ t.0, omega arith, longer z.0 z.1 t.0 t.2, t.3)
    go (no h) (no k) = no (λ z. no_more h k z.0 z.1 z.2 z.3)

unfoldable pub in? : (x : ℕ) (A : List ℕ) → Dec (In x A)
unfolding ℕ_discrete
in? x [] = no (λ h. omega (arith, in_some h))
in? x (y ∷ A) = go (ℕ_discrete y x) (in? x A)
  where
    neither : ¬ (y ≡ x) → ¬ In x A → In x (y ∷ A) → ⊥
    neither a b (in_here e) = a e
    neither a b (in_later h) = b h

    go : Dec (y ≡ x) → Dec (In x A) → Dec (In x (y ∷ A))
    go (yes e) _ = yes (in_here e)
    go (no a) (yes h) = yes (in_later h)
    go (no a) (no h) = no (neither a h)

unfoldable pub unless_in : {x : ℕ} {A : List ℕ} → Dec (In x A) → List ℕ
unless_in {x} {A} (yes _) = A
unless_in {x} {A} (no _) = x ∷ A

-- the labels of trees, each once, and the pairs of these labels at depths below d
unfoldable pub labels_into : List ℕ → List ℕ → List ℕ
unfolding unless_in in?
labels_into [] A = A
labels_into (x ∷ t) A = unless_in (in? (x % 1000) (labels_into t A))

unfoldable pub all_labels : List (List ℕ) → List ℕ
unfolding labels_into
all_labels [] = []
all_labels (t ∷ ts) = labels_into t (all_labels ts)

unfoldable pub at_depth : ℕ → List ℕ → List ℕ
at_depth d [] = []
at_depth d (l ∷ ls) = (1000 * d + l) ∷ at_depth d ls

unfoldable pub pairs_over : ℕ → List ℕ → List ℕ
pairs_over zero ls = []
pairs_over (suc d) ls = at_depth d ls ++ pairs_over d ls

now_in : {x : ℕ} {A : List ℕ} (d : Dec (In x A)) → In x (unless_in d)
unfolding unless_in
now_in (yes h) = h
now_in (no _) = in_here refl

still_in : {x y : ℕ} {A : List ℕ} (d : Dec (In x A)) → In y A → In y (unless_in d)
unfolding unless_in
still_in (yes h) i = i
still_in (no _) i = in_later i

label_in : (t A : List ℕ) (i : ℕ) → i < length t → In (label_at t i) (labels_into t A)
unfolding labels_into
label_in [] A i h = absurd (omega arith)
label_in (x ∷ t) A zero h = now_in (in? (x % 1000) (labels_into t A))
label_in (x ∷ t) A (suc i) h = still_in (in? (x % 1000) (labels_into t A)) (label_in t A i (omega arith))

kept_in : {l : ℕ} (t : List ℕ) {A : List ℕ} → In l A → In l (labels_into t A)
unfolding labels_into
kept_in [] h = h
kept_in (x ∷ t) {A} h = still_in (in? (x % 1000) (labels_into t A)) (kept_in t h)

pair_at : (d l : ℕ) (ls : List ℕ) → In l ls → In (1000 * d + l) (at_depth d ls)
unfolding at_depth
pair_at d l [] x' = elim x' [ ]
pair_at d l (k ∷ ls) (in_here e) = in_here (ap (λ (z : ℕ). 1000 * d + z) e)
pair_at d l (k ∷ ls) (in_later h) = in_later (pair_at d l ls h)

pair_in : (n d l : ℕ) (ls : List ℕ) → d < n → In l ls → In (1000 * d + l) (pairs_over n ls)
unfolding pairs_over
pair_in zero d l ls h i = absurd (omega arith)
pair_in (suc n) d l ls h i = go (dec_lt d n) (λ b. pair_in n d l ls b i)
  where
    go : Dec (d < n) → (d < n → In (1000 * d + l) (pairs_over n ls)) → In (1000 * d + l) (at_depth n ls ++ pairs_over n ls)
    go (yes b) f = in_right (at_depth n ls) (f b)
    go (no b) f = let e : d ≡ n = omega arith in let w : In (1000 * d + l) (at_depth n ls) = rw e (pair_at n l ls i) in in_left (pairs_over n ls) w

-- a pattern that occurs somewhere has only labels of the trees
counted_one : {A : Type 0} → (d : Dec A) (n : ℕ) → 1 ≤ counted d + n → ¬ A → 1 ≤ n
unfolding counted
counted_one (yes a) n h k = absurd (k a)
counted_one (no _) n h k = omega arith

pub held_labels : (u : List ℕ) (ts : List (List ℕ)) → 1 ≤ holding u ts → (i : ℕ) → i < length u → In (label_at u i) (all_labels ts)
unfolding holding all_labels
held_labels u [] h i b = absurd (omega arith)
held_labels u (t ∷ ts) h i b = go (held_by? u t) (λ k. held_labels u ts k i b)
  where
    go : Dec (HeldBy u t) → (1 ≤ holding u ts → In (label_at u i) (all_labels ts)) → In (label_at u i) (labels_into t (all_labels ts))
    go (yes o) f =
        let q = o.placing.placing in
        rw (q.labels i b) (label_in t (all_labels ts) (placeAt o.tuple i) (omega (arith, q.from_1 i b, q.to_last i b)))
    go (no k) f = kept_in t (f (counted_one (held_by? u t) (holding u ts) h k))

-- node i of a tree is at most at depth i
pub depth_le : (u : List ℕ) → IsTree u → (i : ℕ) → i < length u → depthAt u i ≤ i
depth_le u t zero h = omega (arith, t.root_depth)
depth_le u t (suc i) h = omega (arith, t.later_to_next i h, depth_le u t i (omega arith))

unfoldable pub alphabet : List ℕ → ℕ → List ℕ
unfolding pairs_over at_depth all_labels vehicles in_front
alphabet fleet bound = pairs_over bound (all_labels (vehicles fleet))

-- the numbers of a listed form are in the fleet's alphabet
pub listed_over : (asked : Asked) (u : List ℕ) → 1 ≤ asked.request.threshold → Listed asked u → Over (alphabet asked.fleet asked.request.bound) u
unfolding alphabet support
listed_over asked u h l i b =
    let z = listed_form l in
    let d = depth_le u z.in_form.is_tree i b in
    let m = z.up_to_bound in
    let w = pair_in asked.request.bound (depthAt u i) (label_at u i) (all_labels (vehicles asked.fleet)) (omega arith) (held_labels u (vehicles asked.fleet) (omega (arith, z.enough)) i b) in
    let e : 1000 * depthAt u i + label_at u i ≡ get_or u i 0 = omega arith in
    rw e at w

-- no listed form lies between; none is heavier
unfoldable pub none_between? : (asked : Asked) → 1 ≤ asked.request.threshold → (p f : List ℕ) → Dec ((u : List ℕ) → Listed asked u × Lighter p u → ¬ Lighter u f)
unfolding map? not? both? some_word? alphabet lighter? listed?
none_between? asked h p f = map?
    (λ k u l b. k (u, (listed_form l.0).up_to_bound, listed_over asked u h l.0, (l.1, (b, l.0))))
    (λ k z. k z.0 (z.3.1.1, z.3.0) z.3.1.0)
    (not? (some_word? (alphabet asked.fleet asked.request.bound) asked.request.bound (λ u. Lighter p u × (Lighter u f × Listed asked u)) (λ u. both? (lighter? p u) (both? (lighter? u f) (listed? asked u)))))

unfoldable pub none_heavier? : (asked : Asked) → 1 ≤ asked.request.threshold → (p : List ℕ) → Dec ((u : List ℕ) → ¬ (Listed asked u × Lighter p u))
unfolding map? not? both? some_word? alphabet lighter? listed?
none_heavier? asked h p = map?
    (λ k u l. k (u, (listed_form l.0).up_to_bound, listed_over asked u h l.0, (l.1, l.0)))
    (λ k z. k z.0 (z.3.1, z.3.0))
    (not? (some_word? (alphabet asked.fleet asked.request.bound) asked.request.bound (λ u. Lighter p u × Listed asked u) (λ u. both? (lighter? p u) (listed? asked u))))
