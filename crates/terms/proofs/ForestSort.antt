-- Unordered equality of forests, sorting; the left-heavy one is the heaviest of its class.
use mathlib.Core.Path.{◌≡◌, refl, sym, ◌∙◌}
use Prim.Native.Nat.{ℕ}
use Rattle.terms.proofs.Forest.{Forest, nil, cons, ForestLt, lt_lab, lt_kids, lt_trans, lt_irrefl, Tri, tlt, teq, tgt, tri, ForestLe, le_lt, le_eq, le_trans, lone, ForestLeftHeavy, lh_nil, lh_one, lh_two, le_kids, lh_kids, lh_sibs}

-- the same up to the order of siblings
pub data Reordered : Forest → Forest → Type 0 where
  eqv_nil : Reordered nil nil
  eqv_cons : {a b : ℕ} {k l s t : Forest} → a ≡ b → Reordered k l → Reordered s t → Reordered (cons a k s) (cons b l t)
  eqv_swap : {a b : ℕ} {k l s : Forest} → Reordered (cons a k (cons b l s)) (cons b l (cons a k s))
  eqv_trans : {f g h : Forest} → Reordered f g → Reordered g h → Reordered f h

pub eqv_refl : (f : Forest) → Reordered f f
eqv_refl nil = eqv_nil
eqv_refl (cons a k s) = eqv_cons refl (eqv_refl k) (eqv_refl s)

pub eqv_sym : {f g : Forest} → Reordered f g → Reordered g f
eqv_sym eqv_nil = eqv_nil
eqv_sym (eqv_cons e p q) = eqv_cons (sym e) (eqv_sym p) (eqv_sym q)
eqv_sym eqv_swap = eqv_swap
eqv_sym (eqv_trans p q) = eqv_trans (eqv_sym q) (eqv_sym p)

pub eqv_eq : {f g : Forest} → f ≡ g → Reordered f g
eqv_eq {f} {g} e = rw e (eqv_refl g)

-- one tree against another
pub data Cmp (a : ℕ) (k : Forest) (b : ℕ) (l : Forest) : Type 0 where
  ge : ForestLe (lone b l) (lone a k) → Cmp a k b l
  less : ForestLt (lone a k) (lone b l) → Cmp a k b l

pub cmp : (a : ℕ) (k : Forest) (b : ℕ) (l : Forest) → Cmp a k b l
cmp a k b l = go (tri (lone a k) (lone b l))
  where
    go : Tri (lone a k) (lone b l) → Cmp a k b l
    go (tlt p) = less p
    go (teq p) = ge (le_eq (sym p))
    go (tgt p) = ge (le_lt p)

put : {a : ℕ} {k : Forest} {b : ℕ} {l : Forest} → Cmp a k b l → Forest → Forest → Forest
put {a} {k} {b} {l} (ge _) t r = cons a k (cons b l t)
put {a} {k} {b} {l} (less _) t r = cons b l r

pub insert : ℕ → Forest → Forest → Forest
insert a k nil = cons a k nil
insert a k (cons b l t) = put (cmp a k b l) t (insert a k t)

pub sort : Forest → Forest
sort nil = nil
sort (cons a k s) = insert a (sort k) (sort s)

not_both : {f g : Forest} → ForestLe f g → ForestLt g f → ⊥
not_both {f} (le_lt p) q = lt_irrefl f (lt_trans p q)
not_both {f} {g} (le_eq p) q = lt_irrefl g (rw p at q)

put_ge : (a : ℕ) (k : Forest) (b : ℕ) (l t r : Forest) (c : Cmp a k b l) → ForestLe (lone b l) (lone a k) → put c t r ≡ cons a k (cons b l t)
unfolding put
put_ge a k b l t r (ge _) h = refl
put_ge a k b l t r (less q) h = absurd (not_both h q)

put_lt : (a : ℕ) (k : Forest) (b : ℕ) (l t r : Forest) (c : Cmp a k b l) → ForestLt (lone a k) (lone b l) → put c t r ≡ cons b l r
unfolding put
put_lt a k b l t r (ge q) h = absurd (not_both q h)
put_lt a k b l t r (less q) h = refl

ins_nil : (a : ℕ) (k : Forest) → insert a k nil ≡ cons a k nil
unfolding insert
ins_nil a k = refl

ins_ge : (a : ℕ) (k : Forest) (b : ℕ) (l t : Forest) → ForestLe (lone b l) (lone a k) → insert a k (cons b l t) ≡ cons a k (cons b l t)
unfolding insert
ins_ge a k b l t h = put_ge a k b l t (insert a k t) (cmp a k b l) h

ins_lt : (a : ℕ) (k : Forest) (b : ℕ) (l t : Forest) → ForestLt (lone a k) (lone b l) → insert a k (cons b l t) ≡ cons b l (insert a k t)
unfolding insert
ins_lt a k b l t h = put_lt a k b l t (insert a k t) (cmp a k b l) h

le_of_lt_trans : {f g h : Forest} → ForestLt f g → ForestLe g h → ForestLt f h
le_of_lt_trans p (le_lt q) = lt_trans p q
le_of_lt_trans p (le_eq q) = rw q at p

-- two trees that both belong in front of r
two : (a : ℕ) (k : Forest) (b : ℕ) (l r : Forest) → insert a k r ≡ cons a k r → insert b l r ≡ cons b l r → insert a k (cons b l r) ≡ insert b l (cons a k r)
two a k b l r ha hb = go (tri (lone a k) (lone b l))
  where
    go : Tri (lone a k) (lone b l) → insert a k (cons b l r) ≡ insert b l (cons a k r)
    go (tlt p) = cc (ins_lt a k b l r p, ins_ge b l a k r (le_lt p))
    go (teq p) = let e : a ≡ b = cc in let e' : k ≡ l = cc in rw (e, e')
    go (tgt p) = cc (ins_lt b l a k r p, ins_ge a k b l r (le_lt p))

ins_comm : (a : ℕ) (k : Forest) (b : ℕ) (l s : Forest) → insert a k (insert b l s) ≡ insert b l (insert a k s)
ins_comm a k b l nil = rw (ins_nil a k, ins_nil b l) (two a k b l nil (ins_nil a k) (ins_nil b l))
ins_comm a k b l (cons c m t) = go (cmp a k c m) (cmp b l c m) (ins_comm a k b l t)
  where
    go : Cmp a k c m → Cmp b l c m → insert a k (insert b l t) ≡ insert b l (insert a k t) → insert a k (insert b l (cons c m t)) ≡ insert b l (insert a k (cons c m t))
    go (ge p) (ge q) h = let ea = ins_ge a k c m t p in let eb = ins_ge b l c m t q in rw (ea, eb) (two a k b l (cons c m t) ea eb)
    go (ge p) (less q) h = cc (ins_ge a k c m t p, ins_lt b l c m t q, ins_ge a k c m (insert b l t) p, ins_lt b l a k (cons c m t) (le_of_lt_trans q p))
    go (less p) (ge q) h = cc (ins_ge b l c m t q, ins_lt a k c m t p, ins_ge b l c m (insert a k t) q, ins_lt a k b l (cons c m t) (le_of_lt_trans p q))
    go (less p) (less q) h = cc (ins_lt a k c m t p, ins_lt b l c m t q, ins_lt a k c m (insert b l t) p, ins_lt b l c m (insert a k t) q)

-- the unordered tree decides the sorted one
pub sort_eqv : {f g : Forest} → Reordered f g → sort f ≡ sort g
unfolding sort
sort_eqv eqv_nil = refl
sort_eqv (eqv_cons e p q) = let ep = sort_eqv p in let eq = sort_eqv q in cc (ep, eq)
sort_eqv (eqv_swap {a = a} {b = b} {k = k} {l = l} {s = s}) = ins_comm a (sort k) b (sort l) (sort s)
sort_eqv (eqv_trans p q) = sort_eqv p ∙ sort_eqv q

ins_eqv : (a : ℕ) (k s : Forest) → Reordered (cons a k s) (insert a k s)
ins_eqv a k nil = rw (ins_nil a k) (eqv_refl (cons a k nil))
ins_eqv a k (cons b l t) = go (cmp a k b l) (ins_eqv a k t)
  where
    go : Cmp a k b l → Reordered (cons a k t) (insert a k t) → Reordered (cons a k (cons b l t)) (insert a k (cons b l t))
    go (ge p) h = rw (ins_ge a k b l t p) (eqv_refl (cons a k (cons b l t)))
    go (less p) h = rw (ins_lt a k b l t p) (eqv_trans eqv_swap (eqv_cons refl (eqv_refl l) h))

pub eqv_sort : (f : Forest) → Reordered f (sort f)
unfolding sort
eqv_sort nil = eqv_nil
eqv_sort (cons a k s) = eqv_trans (eqv_cons refl (eqv_sort k) (eqv_sort s)) (ins_eqv a (sort k) (sort s))

-- a left-heavy forest is sorted
pub lh_sort : {f : Forest} → ForestLeftHeavy f → sort f ≡ f
unfolding sort
lh_sort lh_nil = refl
lh_sort (lh_one {a = a} {k = k} h) = rw (lh_sort h) (ins_nil a k)
lh_sort (lh_two {a = a} {b = b} {k = k} {l = l} {t = t} h p q) = rw (lh_sort h, lh_sort q) (ins_ge a k b l t p)

lt_front : {a b : ℕ} {k l s t : Forest} → ForestLt (lone a k) (lone b l) → ForestLt (cons a k s) (cons b l t)
lt_front {a = a} {b = b} {k = k} {l = l} {s = s} {t = t} (Rattle.terms.proofs.Forest.lt_sib _ _ x21) = elim x21 [ ]
lt_front (lt_lab p) = lt_lab p
lt_front (lt_kids e p) = lt_kids e p

ins_le : (a : ℕ) (k s : Forest) → ForestLe (cons a k s) (insert a k s)
ins_le a k nil = le_eq (sym (ins_nil a k))
ins_le a k (cons b l t) = go (cmp a k b l)
  where
    go : Cmp a k b l → ForestLe (cons a k (cons b l t)) (insert a k (cons b l t))
    go (ge p) = le_eq (sym (ins_ge a k b l t p))
    go (less p) = rw (ins_lt a k b l t p) (le_lt (lt_front p))

pub sort_le : (f : Forest) → ForestLe f (sort f)
unfolding sort
sort_le nil = le_eq refl
sort_le (cons a k s) = le_trans (le_kids refl (sort_le k) (sort_le s)) (ins_le a (sort k) (sort s))

-- the left-heavy one is the heaviest of its class
pub lh_heaviest : {f g : Forest} → ForestLeftHeavy f → Reordered g f → ForestLe g f
lh_heaviest {f} {g} p e = rw (sort_eqv e, lh_sort p) at (sort_le g)

-- sorting makes a left-heavy forest
lh_ins : (a : ℕ) (k s : Forest) → ForestLeftHeavy k → ForestLeftHeavy s → ForestLeftHeavy (insert a k s)
lh_ins a k nil h h' = rw (ins_nil a k) (lh_one h)
lh_ins a k (cons b l t) h h' = go (cmp a k b l) (lh_ins a k t h (lh_sibs h'))
  where
    under : (r : Forest) → r ≡ t → ForestLt (lone a k) (lone b l) → ForestLeftHeavy (cons b l r) → ForestLeftHeavy (insert a k r) → ForestLeftHeavy (cons b l (insert a k r))
    under nil e p q q' = rw (ins_nil a k) (lh_two (lh_kids q) (le_lt p) (lh_one h))
    under (cons c m u) e p (lh_two q₁ q₂ q₃) q' = inner (cmp a k c m)
      where
        inner : Cmp a k c m → ForestLeftHeavy (cons b l (insert a k (cons c m u)))
        inner (ge z) = let ee = ins_ge a k c m u z in rw ee (lh_two q₁ (le_lt p) (rw ee at q'))
        inner (less z) = let ee = ins_lt a k c m u z in rw ee (lh_two q₁ q₂ (rw ee at q'))

    go : Cmp a k b l → ForestLeftHeavy (insert a k t) → ForestLeftHeavy (insert a k (cons b l t))
    go (ge p) q = rw (ins_ge a k b l t p) (lh_two h p h')
    go (less p) q = rw (ins_lt a k b l t p) (under t refl p h' q)

pub lh_sorted : (f : Forest) → ForestLeftHeavy (sort f)
unfolding sort
lh_sorted nil = lh_nil
lh_sorted (cons a k s) = lh_ins a (sort k) (sort s) (lh_sorted k) (lh_sorted s)
