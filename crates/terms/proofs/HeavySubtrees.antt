-- The left-heavy test by indices: each run of a node's subtree against that of its next sibling.
use mathlib.Core.Path.{◌≡◌, refl, sym, ap, ◌∙◌, subst}
use mathlib.Core.List.{List, [], ◌∷◌}
use Prim.Native.Nat.{ℕ, zero, suc, ◌+◌, ◌-◌, ◌*◌, ◌/◌, ◌≤◌, ◌<◌}
use native.Mathlib.Omega.{arith}
use native.Mathlib.Decide.{dec_lt}
use lib.ListN.{length, take, drop}
use Rattle.terms.specs.Form.{NoLighterThanNext}
use Rattle.terms.specs.Order.{Lighter}
use Rattle.terms.specs.Tree.{depthAt, IsTreeAnyDepth, SubtreeEnd}
use Rattle.terms.proofs.Forest.{Forest, nil, cons, lone, ForestLe, le_total, not_lt, ForestLeftHeavy, lh_nil, lh_one, lh_two, lh_kids, lh_sibs}
use Rattle.terms.proofs.ForestEmbedding.{size}
use Rattle.terms.proofs.Preorder.{preorder, Labelled, lab_nil, lab_cons, Shallower, low_nil, low_enc, enc_size, enc_lx, lx_enc, take_enc, take_forest_all}
use Rattle.terms.proofs.PreorderLinks.{dep_ge, enc_skip, low_head, size_len}
use Rattle.terms.proofs.Canonical.{TreeOf, tree_of, HeaviestAnyDepth, canon_lh, lh_canon}

pub end_unique : {s : List ℕ} {i e f : ℕ} → SubtreeEnd s i e → SubtreeEnd s i f → e ≡ f
end_unique {s} {i} {e} {f} p q = go (dec_lt e f) (dec_lt f e)
  where
    go : Dec (e < f) → Dec (f < e) → e ≡ f
    go (yes h) _ = absurd (omega (arith, q.deeper e p.after h, p.stop (omega (arith, q.within))))
    go (no h) (yes k) = absurd (omega (arith, p.deeper f q.after k, q.stop (omega (arith, p.within))))
    go (no h) (no k) = omega arith

drop_enc : (k : Forest) (e n : ℕ) (t : List ℕ) → drop (size k + n) (preorder e k t) ≡ drop n t
drop_enc nil e n t = let q : 0 + n ≡ n = omega arith in rw q
drop_enc (cons a k s) e n t =
    let q : suc (size k + size s) + n ≡ suc (size k + (size s + n)) = omega arith in
    rw q (drop_enc k (suc e) (size s + n) (preorder e s t) ∙ drop_enc s e n t)

module _ (a : ℕ) (k s : Forest) (e : ℕ) (t : List ℕ) (la : Labelled (cons a k s)) (lo : Shallower e t) where
  front : List ℕ
  front = preorder e (cons a k s) t

  d0 : depthAt (preorder e (cons a k s) t) 0 ≡ e
  d0 = go la
    where
      go : Labelled (cons a k s) → (1000 * e + a) / 1000 ≡ e
      go (lab_cons p q _ _) = omega arith

  kids : Labelled k
  kids = go la
    where
      go : Labelled (cons a k s) → Labelled k
      go (lab_cons p q lk ls) = lk

  sibs : Labelled s
  sibs = go la
    where
      go : Labelled (cons a k s) → Labelled s
      go (lab_cons p q lk ls) = ls

  next_dep : depthAt (preorder e (cons a k s) t) (suc (size k)) ≡ depthAt (preorder e s t) 0
  next_dep = let z : size k + 0 ≡ size k = omega arith in ap (λ (y : ℕ). y / 1000) (rw z at (enc_skip k (suc e) 0 (preorder e s t)))

  run_enc : SubtreeEnd (preorder e (cons a k s) t) 0 (suc (size k))
  run_enc = record { after = omega arith; within = omega (arith, enc_size k (suc e) (preorder e s t)); deeper = deep; stop = stp }
    where
      deep : (m : ℕ) → 0 < m → m < suc (size k) → depthAt (preorder e (cons a k s) t) 0 < depthAt (preorder e (cons a k s) t) m
      deep zero h q = absurd (omega arith)
      deep (suc m) h q = omega (arith, d0, dep_ge k (suc e) (preorder e s t) m kids (omega arith))

      stp : suc (size k) < length (preorder e (cons a k s) t) → depthAt (preorder e (cons a k s) t) (suc (size k)) ≤ depthAt (preorder e (cons a k s) t) 0
      stp h = omega (arith, d0, next_dep, low_head (low_enc e t sibs lo) (omega (arith, enc_size k (suc e) (preorder e s t))))

  drop_run : drop (suc (size k)) (preorder e (cons a k s) t) ≡ preorder e s t
  drop_run = let z : size k + 0 ≡ size k = omega arith in rw z at (drop_enc k (suc e) 0 (preorder e s t))

  take_run : take (suc (size k)) (preorder e (cons a k s) t) ≡ preorder e (lone a k) []
  take_run =
      let z : size k - size k ≡ 0 = omega arith in
      ap (λ (l : List ℕ). (1000 * e + a) ∷ l) (take_enc k (suc e) (size k) (preorder e s t) ∙ (rw (z, take_forest_all k (size k) (omega arith))))

tree_lab : {a : ℕ} {k s : Forest} → Labelled (cons a k s) → Labelled (lone a k)
tree_lab (lab_cons p q lk _) = lab_cons p q lk lab_nil

-- the front tree and the next
heavy_le : (a : ℕ) (k : Forest) (b : ℕ) (l r : Forest) (e : ℕ) (t : List ℕ) → Labelled (cons a k (cons b l r)) → Shallower e t → NoLighterThanNext (preorder e (cons a k (cons b l r)) t) → ForestLe (lone b l) (lone a k)
unfolding NoLighterThanNext
heavy_le a k b l r e t la lo h = le_total (lone b l) (lone a k) λ p.
    h (suc (size k)) (suc (size l)) (run_enc a k (cons b l r) e t la lo) (omega (arith, enc_size k (suc e) (preorder e (cons b l r) t)))
    (next_dep a k (cons b l r) e t la lo ∙ d0 b l r e t lb lo ∙ sym (d0 a k (cons b l r) e t la lo))
    (rw (drop_run a k (cons b l r) e t la lo) (run_enc b l r e t lb lo))
    (rw (drop_run a k (cons b l r) e t la lo, take_run a k (cons b l r) e t la lo, take_run b l r e t lb lo) (enc_lx e [] [] p (tree_lab la) low_nil))
  where
    lb : Labelled (cons b l r)
    lb = sibs a k (cons b l r) e t la lo

heavy_last : (a : ℕ) (k : Forest) (e : ℕ) (t : List ℕ) → Labelled (cons a k nil) → Shallower e t → NoLighterThanNext (preorder e (cons a k nil) t)
unfolding NoLighterThanNext
heavy_last a k e t la lo n m rn hn dn rm lx =
    let en : n ≡ suc (size k) = end_unique rn (run_enc a k nil e t la lo) in
    let dn' : depthAt (preorder e (cons a k nil) t) (suc (size k)) ≡ depthAt (preorder e (cons a k nil) t) 0 = rw en at dn in
    omega (arith, d0 a k nil e t la lo, next_dep a k nil e t la lo, low_head lo (omega (arith, enc_size k (suc e) t)))

heavy_two : (a : ℕ) (k : Forest) (b : ℕ) (l r : Forest) (e : ℕ) (t : List ℕ) → Labelled (cons a k (cons b l r)) → Shallower e t → ForestLe (lone b l) (lone a k) → NoLighterThanNext (preorder e (cons a k (cons b l r)) t)
unfolding NoLighterThanNext
heavy_two a k b l r e t la lo h n m rn hn dn rm lx =
    let lb : Labelled (cons b l r) = sibs a k (cons b l r) e t la lo in
    let en : n ≡ suc (size k) = end_unique rn (run_enc a k (cons b l r) e t la lo) in
    let ed : drop n (preorder e (cons a k (cons b l r)) t) ≡ preorder e (cons b l r) t = rw en (drop_run a k (cons b l r) e t la lo) in
    let em : m ≡ suc (size l) = end_unique (rw ed at rm) (run_enc b l r e t lb lo) in
    let lx' : Lighter (preorder e (lone a k) []) (preorder e (lone b l) []) = rw (ed, en, em, take_run a k (cons b l r) e t la lo, take_run b l r e t lb lo) at lx in
    not_lt h (lx_enc (lone a k) (lone b l) e (tree_lab la) (tree_lab lb) lx')

-- left-heavy, by indices
all_lh : (f : Forest) (d : ℕ) (t : List ℕ) → Labelled f → Shallower d t → ((i : ℕ) → i < size f → NoLighterThanNext (drop i (preorder d f t))) → ForestLeftHeavy f
all_lh nil d t l lo h = lh_nil
all_lh (cons a k s) d t (lab_cons p q lk ls) lo h =
    go s refl (all_lh k (suc d) (preorder d s t) lk (low_enc d t ls lo) (λ i b. h (suc i) (omega arith)))
    (all_lh s d t ls lo (λ i b. rw (drop_enc k (suc d) i (preorder d s t)) at (h (suc (size k + i)) (omega arith))))
  where
    go : (z : Forest) → s ≡ z → ForestLeftHeavy k → ForestLeftHeavy s → ForestLeftHeavy (cons a k s)
    go nil e x y = rw e (lh_one x)
    go (cons b m u) e x y = rw e (lh_two x (heavy_le a k b m u d t (rw e at (lab_cons p q lk ls)) lo (rw e at (h 0 (omega arith)))) (rw e at y))

lh_all : (f : Forest) (d : ℕ) (t : List ℕ) → Labelled f → Shallower d t → ForestLeftHeavy f → (i : ℕ) → i < size f → NoLighterThanNext (drop i (preorder d f t))
lh_all nil d t l lo h i b = absurd (omega arith)
lh_all (cons a k nil) d t l lo h zero b = heavy_last a k d t l lo
lh_all (cons a k (cons c m u)) d t l lo (lh_two x y z) zero b = heavy_two a k c m u d t l lo y
lh_all (cons a k s) d t (lab_cons p q lk ls) lo h (suc i) b = go (dec_lt i (size k)) (λ z. lh_all k (suc d) (preorder d s t) lk (low_enc d t ls lo) (lh_kids h) i z) (λ z. lh_all s d t ls lo (lh_sibs h) (i - size k) z)
  where
    go : Dec (i < size k) → (i < size k → NoLighterThanNext (drop i (preorder (suc d) k (preorder d s t)))) → (i - size k < size s → NoLighterThanNext (drop (i - size k) (preorder d s t))) → NoLighterThanNext (drop i (preorder (suc d) k (preorder d s t)))
    go (yes z) f g = f z
    go (no z) f g =
        let e : size k + (i - size k) ≡ i = omega arith in
        let x : drop i (preorder (suc d) k (preorder d s t)) ≡ drop (i - size k) (preorder d s t) = subst (λ (y : ℕ). drop y (preorder (suc d) k (preorder d s t)) ≡ drop (i - size k) (preorder d s t)) e (drop_enc k (suc d) (i - size k) (preorder d s t)) in
        rw x (g (omega arith))

-- canonical sequences, by an index test
pub canon_heavy : (s : List ℕ) → IsTreeAnyDepth s → HeaviestAnyDepth s → (i : ℕ) → i < length s → NoLighterThanNext (drop i s)
canon_heavy s v c i b = go (tree_of s v)
  where
    go : TreeOf s → NoLighterThanNext (drop i s)
    go x =
        let f = cons x.root x.kids nil in
        let h = canon_lh x.root x.kids x.labs (rw x.reads at c) in
        rw x.reads (lh_all f 0 [] x.labs low_nil h i (omega (arith, ap length x.reads, size_len f 0)))

pub heavy_canon : (s : List ℕ) → IsTreeAnyDepth s → ((i : ℕ) → i < length s → NoLighterThanNext (drop i s)) → HeaviestAnyDepth s
heavy_canon s v h = go (tree_of s v)
  where
    go : TreeOf s → HeaviestAnyDepth s
    go x =
        let f = cons x.root x.kids nil in
        let l = all_lh f 0 [] x.labs low_nil (λ i b. rw x.reads at (h i (omega (arith, ap length x.reads, size_len f 0)))) in
        rw x.reads (lh_canon x.root x.kids x.labs l)
