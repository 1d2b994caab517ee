-- LAWS. Matchings are decided; a placing as a map of positions that keeps labels and parents (`Embeds`); the same tree is an equivalence.
-- They hold of trees of any depth; of `IsTree` under the shorter name.
use mathlib.Core.Path.{◌≡◌, refl, sym, ap, ◌∙◌}
use mathlib.Core.List.{List, [], ◌∷◌}
use mathlib.Core.Logic.{◌↔◌}
use Prim.Native.Nat.{ℕ, zero, suc, ◌≤◌, ◌<◌}
use native.Mathlib.Omega.{arith}
use native.Mathlib.Decide.{dec_lt, dec_le, ℕ_discrete}
use lib.ListN.{length, get_or}
use Rattle.terms.specs.Matching.{placeAt, SameTree}
use Rattle.terms.specs.Placing.{Placing, Occurs}
use Rattle.terms.specs.Tree.{IsParent, label_at, IsTree, IsTreeAnyDepth}
use Rattle.terms.proofs.PreorderLinks.{Embeds}
use Rattle.terms.proofs.Canonical.{SameByMap}
use Rattle.terms.proofs.Pigeonhole.{pigeonhole}
use Rattle.terms.proofs.EmbedsLaws.{parents_back, occ_comp, same_sym}
use Rattle.terms.proofs.Decide.{both?, map?, implies?, iff?, all_below?, some_below?, AllBelow}
use Rattle.terms.proofs.TreeLaws.{tree_any_depth, parent?}

-- the first n values of a function, as node numbers from 1
pub numbers : ℕ → (ℕ → ℕ) → List ℕ
numbers zero f = []
numbers (suc n) f = suc (f 0) ∷ numbers n (λ i. f (suc i))

pub numbers_length : (n : ℕ) (f : ℕ → ℕ) → length (numbers n f) ≡ n
unfolding numbers
numbers_length zero f = refl
numbers_length (suc n) f = ap suc (numbers_length n (λ i. f (suc i)))

pub numbers_at : (n : ℕ) (f : ℕ → ℕ) (i : ℕ) → i < n → get_or (numbers n f) i 0 ≡ suc (f i)
unfolding numbers
numbers_at zero f i h = absurd (omega arith)
numbers_at (suc n) f zero h = refl
numbers_at (suc n) f (suc i) h = numbers_at n (λ i. f (suc i)) i (omega arith)

pub placing_occ : {p t m : List ℕ} → Placing p t m → Embeds p t (placeAt m)
placing_occ {p} {t} {m} o = record {
  bound = λ i h. omega (arith, o.from_1 i h, o.to_last i h);
  labels = o.labels;
  inj = λ i j h k e. o.different i j h k (omega (arith, o.from_1 i h, o.from_1 j k));
  parents = λ i j h k r. ((o.parents i j h k).0 r);
}

pub occ_placing_any_depth : {p t : List ℕ} {φ : ℕ → ℕ} → IsTreeAnyDepth p → Embeds p t φ → Placing p t (numbers (length p) φ)
occ_placing_any_depth {p} {t} {φ} tp o = record {
  each_placed = numbers_length (length p) φ;
  from_1 = λ i h. omega (arith, at i h);
  to_last = λ i h. omega (arith, at i h, o.bound i h);
  different = λ i j h k e. o.inj i j h k (omega (arith, at i h, at j k));
  labels = λ i h. o.labels i h ∙ ap (label_at t) (sym (place i h));
  parents = λ i j h k. (
    λ r. rw (place i h, place j k) ((o.parents i j h k r)),
    λ r. (parents_back p t φ tp o i j h k ((rw (place i h, place j k) at r))),
  );
}
  where
    at : (i : ℕ) → i < length p → get_or (numbers (length p) φ) i 0 ≡ suc (φ i)
    at i h = numbers_at (length p) φ i h

    place : (i : ℕ) → i < length p → placeAt (numbers (length p) φ) i ≡ φ i
    place i h = omega (arith, at i h)

pub occ_placing : {p t : List ℕ} {φ : ℕ → ℕ} → IsTree p → Embeds p t φ → Placing p t (numbers (length p) φ)
occ_placing tp = occ_placing_any_depth (tree_any_depth tp)

-- an injection into as many or fewer
pub no_fewer : {p t : List ℕ} {φ : ℕ → ℕ} → Embeds p t φ → length p ≤ length t
no_fewer {p} {t} {φ} o = go (dec_le (length p) (length t))
  where
    go : Dec (length p ≤ length t) → length p ≤ length t
    go (yes h) = h
    go (no h) = absurd (pigeonhole (length t) φ (λ i q. o.bound i (omega arith)) (λ i j q r e. o.inj i j (omega arith) (omega arith) e))

-- an injection between equally many leaves none over
pub none_over : (n : ℕ) (φ : ℕ → ℕ) → ((i : ℕ) → i < n → φ i < n) → ((i j : ℕ) → i < n → j < n → φ i ≡ φ j → i ≡ j) → (v : ℕ) → v < n → (i : ℕ) × (i < n) × (φ i ≡ v)
none_over n φ below inj v h = go (some_below? (λ i. φ i ≡ v) (λ i. ℕ_discrete (φ i) v) n)
  where
    ψ : ℕ → ℕ
    ψ zero = v
    ψ (suc i) = φ i

    ψ_below : (i : ℕ) → i ≤ n → ψ i < n
    ψ_below zero q = h
    ψ_below (suc i) q = below i (omega arith)

    ψ_inj : ¬ ((i : ℕ) × (i < n) × (φ i ≡ v)) → (i j : ℕ) → i ≤ n → j ≤ n → ψ i ≡ ψ j → i ≡ j
    ψ_inj k zero zero a b e = refl
    ψ_inj k zero (suc j) a b e = absurd (k (j, omega arith, sym e))
    ψ_inj k (suc i) zero a b e = absurd (k (i, omega arith, e))
    ψ_inj k (suc i) (suc j) a b e = ap suc (inj i j (omega arith) (omega arith) e)

    go : Dec ((i : ℕ) × (i < n) × (φ i ≡ v)) → (i : ℕ) × (i < n) × (φ i ≡ v)
    go (yes z) = z
    go (no z) = absurd (pigeonhole n ψ ψ_below (ψ_inj z))

pub same_length : {s t : List ℕ} → SameTree s t → length s ≡ length t
same_length {s} {t} e = omega (arith, no_fewer (placing_occ e.matching), back (dec_le (length t) (length s)))
  where
    source : (v : ℕ) → Dec (v < length t) → ℕ
    source v (yes h) = (e.none_left_over (suc v) (omega arith) (omega arith)).0
    source v (no h) = 0

    is_source : (v : ℕ) → v < length t → (d : Dec (v < length t)) → (source v d < length s) × (get_or e.tuple (source v d) 0 ≡ suc v)
    is_source v h (yes q) = let z = e.none_left_over (suc v) (omega arith) (omega arith) in (z.1, z.2)
    is_source v h (no q) = absurd (q h)

    ψ : ℕ → ℕ
    ψ v = source v (dec_lt v (length t))

    back : Dec (length t ≤ length s) → length t ≤ length s
    back (yes h) = h
    back (no h) = absurd (pigeonhole (length s) ψ (λ v q. (is_source v (omega arith) (dec_lt v (length t))).0) inj)
      where
        inj : (i j : ℕ) → i ≤ length s → j ≤ length s → ψ i ≡ ψ j → i ≡ j
        inj i j a b q =
            let x = (is_source i (omega arith) (dec_lt i (length t))).1 in
            let y = (is_source j (omega arith) (dec_lt j (length t))).1 in
            let z : suc i ≡ suc j = sym x ∙ ap (λ (k : ℕ). get_or e.tuple k 0) q ∙ y in
            omega arith

pub same_to : {s t : List ℕ} → SameTree s t → SameByMap s t
same_to e = record { size = same_length e; map = placeAt e.tuple; occurs = placing_occ e.matching }

pub same_from_any_depth : {s t : List ℕ} → IsTreeAnyDepth s → SameByMap s t → SameTree s t
same_from_any_depth {s} {t} ts e = record
    { tuple = numbers (length s) e.map; matching = occ_placing_any_depth ts e.occurs; none_left_over = left }
  where
    left : (n : ℕ) → 1 ≤ n → n ≤ length t → (i : ℕ) × (i < length s) × (get_or (numbers (length s) e.map) i 0 ≡ n)
    left zero a b = absurd (omega arith)
    left (suc v) a b =
        let z = none_over (length s) e.map (λ i h. omega (arith, e.occurs.bound i h, e.size)) e.occurs.inj v (omega (arith, e.size)) in
        (z.0, z.1, numbers_at (length s) e.map z.0 z.1 ∙ ap suc z.2)

pub same_from : {s t : List ℕ} → IsTree s → SameByMap s t → SameTree s t
same_from ts = same_from_any_depth (tree_any_depth ts)

-- decisions
unfoldable pub placing? : (p t m : List ℕ) → Dec (Placing p t m)
unfolding map? both? all_below? implies? iff? parent? dec_le ℕ_discrete
placing? p t m = map?
    (λ h. record { each_placed = h.0; from_1 = h.1.0; to_last = h.1.1.0; different = λ i j a b e. h.1.1.1.0 i a j b e; labels = h.1.1.1.1.0; parents = λ i j a b. h.1.1.1.1.1 i a j b })
    (λ o. (o.each_placed, (o.from_1, (o.to_last, ((λ i a j b e. o.different i j a b e), (o.labels, (λ i a j b. o.parents i j a b)))))))
    (both? (ℕ_discrete (length m) n) (both? (all_below? (λ i. 1 ≤ get_or m i 0) (λ i. dec_le 1 (get_or m i 0)) n) (both? (all_below? (λ i. get_or m i 0 ≤ length t) (λ i. dec_le (get_or m i 0) (length t)) n)
    (both? (all_below? (λ i. (j : ℕ) → j < n → get_or m i 0 ≡ get_or m j 0 → i ≡ j) (λ i. all_below? (λ j. get_or m i 0 ≡ get_or m j 0 → i ≡ j) (λ j. implies? (ℕ_discrete (get_or m i 0) (get_or m j 0)) (ℕ_discrete i j)) n) n)
    (both? (all_below? (λ i. label_at p i ≡ label_at t (placeAt m i)) (λ i. ℕ_discrete (label_at p i) (label_at t (placeAt m i))) n)
    (all_below? (λ i. (j : ℕ) → j < n → IsParent p i j ↔ IsParent t (placeAt m i) (placeAt m j)) (λ i. all_below? (λ j. IsParent p i j ↔ IsParent t (placeAt m i) (placeAt m j)) (λ j. iff? (parent? p i j) (parent? t (placeAt m i) (placeAt m j))) n) n))))))
  where
    n : ℕ
    n = length p

pub placing_below : {p t m : List ℕ} → Placing p t m → AllBelow (suc (length t)) m
placing_below o i h = omega (arith, o.to_last i (omega (arith, o.each_placed)))

-- occurrence composes; the same tree is an equivalence
pub occurs_trans_any_depth : {p q r : List ℕ} → IsTreeAnyDepth p → Occurs p q → Occurs q r → Occurs p r
occurs_trans_any_depth {p} {q} {r} tp a b = record { tuple = _; placing = occ_placing_any_depth tp (occ_comp p q r (placeAt a.tuple) (placeAt b.tuple) (placing_occ a.placing) (placing_occ b.placing)) }

pub occurs_trans : {p q r : List ℕ} → IsTree p → Occurs p q → Occurs q r → Occurs p r
occurs_trans tp = occurs_trans_any_depth (tree_any_depth tp)

pub same_occurs : {s t : List ℕ} → SameTree s t → Occurs s t
same_occurs e = record { tuple = e.tuple; placing = e.matching }

pub same_symmetric_any_depth : {s t : List ℕ} → IsTreeAnyDepth s → IsTreeAnyDepth t → SameTree s t → SameTree t s
same_symmetric_any_depth {s} {t} ts tt e = same_from_any_depth tt (same_sym s t ts tt (same_to e))

pub same_symmetric : {s t : List ℕ} → IsTree s → IsTree t → SameTree s t → SameTree t s
same_symmetric ts tt = same_symmetric_any_depth (tree_any_depth ts) (tree_any_depth tt)

pub same_transitive_any_depth : {s t u : List ℕ} → IsTreeAnyDepth s → SameTree s t → SameTree t u → SameTree s u
same_transitive_any_depth {s} {t} {u} ts a b = same_from_any_depth ts (record {
  size = same_length a ∙ same_length b;
  map = λ i. placeAt b.tuple (placeAt a.tuple i);
  occurs = occ_comp s t u (placeAt a.tuple) (placeAt b.tuple) (placing_occ a.matching) (placing_occ b.matching);
})

pub same_transitive : {s t u : List ℕ} → IsTree s → SameTree s t → SameTree t u → SameTree s u
same_transitive ts = same_transitive_any_depth (tree_any_depth ts)

pub same_reflexive_any_depth : {s : List ℕ} → IsTreeAnyDepth s → SameTree s s
same_reflexive_any_depth {s} ts = same_from_any_depth ts (record { size = refl; map = λ i. i; occurs = record { bound = λ i h. h; labels = λ i h. refl; inj = λ i j h k e. e; parents = λ i j h k r. r } })

pub same_reflexive : {s : List ℕ} → IsTree s → SameTree s s
same_reflexive ts = same_reflexive_any_depth (tree_any_depth ts)

-- two trees each of which occurs in the other are the same
pub occurs_both_any_depth : {s t : List ℕ} → IsTreeAnyDepth s → Occurs s t → Occurs t s → SameTree s t
occurs_both_any_depth {s} {t} ts a b = same_from_any_depth ts (record
    { size = omega (arith, no_fewer (placing_occ a.placing), no_fewer (placing_occ b.placing)); map = placeAt a.tuple; occurs = placing_occ a.placing })

pub occurs_both : {s t : List ℕ} → IsTree s → Occurs s t → Occurs t s → SameTree s t
occurs_both ts = occurs_both_any_depth (tree_any_depth ts)
