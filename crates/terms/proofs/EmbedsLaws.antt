-- Embeddings at sequences: parents exactly when, beginnings of the pattern, composition; the same tree is symmetric.
use mathlib.Core.Path.{◌≡◌, refl, sym, ap, ◌∙◌}
use mathlib.Core.List.{List, []}
use Prim.Native.Nat.{ℕ, zero, suc, ◌+◌, ◌-◌, ◌/◌, ◌%◌, ◌≤◌, ◌<◌}
use native.Mathlib.Omega.{arith}
use native.Mathlib.Decide.{dec_lt}
use lib.ListN.{length, take}
use lib.Seq.{get_or-take, length-take-le}
use Rattle.terms.specs.Tree.{depthAt, IsParent, IsTreeAnyDepth}
use Rattle.terms.proofs.Forest.{Forest, nil, cons}
use Rattle.terms.proofs.ForestSort.{eqv_sym}
use Rattle.terms.proofs.ForestEmbedding.{size}
use Rattle.terms.proofs.Positions.{RootAt, at_here, at_later, ParentIn, par_root, par_kids, par_sib}
use Rattle.terms.proofs.PreorderLinks.{Embeds, par_seq, size_len}
use Rattle.terms.proofs.Canonical.{TreeOf, tree_of, SameByMap, same_eqv, eqv_same}

-- a parent is the only one
pub par_unique : {s : List ℕ} {i i' j : ℕ} → IsParent s i j → IsParent s i' j → i ≡ i'
par_unique {s} {i} {i'} {j} p q = go (dec_lt i i') (dec_lt i' i)
  where
    go : Dec (i < i') → Dec (i' < i) → i ≡ i'
    go (yes h) _ = absurd (omega (arith, p.between i' h q.before, p.one_deeper, q.one_deeper))
    go (no h) (yes k) = absurd (omega (arith, q.between i k p.before, p.one_deeper, q.one_deeper))
    go (no h) (no k) = omega arith

-- every node but a root has a parent
data Above (f : Forest) (j : ℕ) : Type 0 where
  root : (a : ℕ) (k : Forest) → RootAt f j a k → Above f j
  child : (i : ℕ) → ParentIn f i j → Above f j

above : (f : Forest) (j : ℕ) → j < size f → Above f j
above nil j h = absurd (omega arith)
above (cons a k s) zero h = root a k (at_here refl)
above (cons a k s) (suc j) h = go (dec_lt j (size k)) (λ p. above k j p) (λ p. above s (j - size k) p)
  where
    kid : Above k j → Above (cons a k s) (suc j)
    kid (root b l t) = child 0 (par_root j refl refl t)
    kid (child i t) = child (suc i) (par_kids i j refl refl t)

    sib : suc j ≡ suc (size k + (j - size k)) → Above s (j - size k) → Above (cons a k s) (suc j)
    sib e (root b l t) = root b l (at_later (j - size k) e t)
    sib e (child i t) = child (suc (size k + i)) (par_sib i (j - size k) refl e t)

    go : Dec (j < size k) → (j < size k → Above k j) → (j - size k < size s → Above s (j - size k)) → Above (cons a k s) (suc j)
    go (yes p) f g = kid (f p)
    go (no p) f g = sib (omega arith) (g (omega arith))

pub has_parent : (s : List ℕ) → IsTreeAnyDepth s → (j : ℕ) → suc j < length s → (i : ℕ) × IsParent s i (suc j)
has_parent s v j h = go (tree_of s v)
  where
    go : TreeOf s → (i : ℕ) × IsParent s i (suc j)
    go z = up (above f (suc j) (omega (arith, ap length z.reads, size_len f 0)))
      where
        f : Forest
        f = cons z.root z.kids nil

        up : Above f (suc j) → (i : ℕ) × IsParent s i (suc j)
        up (root a k (at_later _ _ x22)) = elim x22 [ ]
        up (root a k (at_here e)) = absurd (omega arith)
        up (child i t) = (i, rw z.reads (par_seq 0 [] z.labs t))

-- the image of the root comes first
pub image_first : (n : ℕ) (p q : List ℕ) (φ : ℕ → ℕ) → IsTreeAnyDepth p → Embeds p q φ → (i : ℕ) → i ≤ n → i < length p → φ 0 ≤ φ i
image_first zero p q φ v o zero h b = omega arith
image_first (suc n) p q φ v o zero h b = omega arith
image_first zero p q φ v o (suc i) h b = absurd (omega arith)
image_first (suc n) p q φ v o (suc i) h b =
    let z = has_parent p v i b in
    let m : z.0 < suc i = z.1.before in
    let c = o.parents z.0 (suc i) (omega arith) b z.1 in
    omega (arith, image_first n p q φ v o z.0 (omega arith) (omega arith), c.before)

-- the other half of "if and only if"
pub parents_back : (p q : List ℕ) (φ : ℕ → ℕ) → IsTreeAnyDepth p → Embeds p q φ → (i j : ℕ) → i < length p → j < length p → IsParent q (φ i) (φ j) → IsParent p i j
parents_back p q φ v o i zero hi hj r = absurd (omega (arith, image_first i p q φ v o i (omega arith) hi, r.before))
parents_back p q φ v o i (suc j) hi hj r =
    let z = has_parent p v j hj in
    let b : z.0 < length p = omega (arith, z.1.before) in
    let e : z.0 ≡ i = o.inj z.0 i b hi (par_unique (o.parents z.0 (suc j) b hj z.1) r) in
    rw e at z.1

-- a beginning of the pattern goes where the pattern goes
pub occ_prefix : (p q : List ℕ) (φ : ℕ → ℕ) (n : ℕ) → n ≤ length p → Embeds p q φ → Embeds (take n p) q φ
occ_prefix p q φ n hn o = record {
  bound = λ i h. o.bound i (omega (arith, len));
  labels = λ i h. ap (λ (x : ℕ). x % 1000) (get_or-take n p i 0 (omega (arith, len))) ∙ o.labels i (omega (arith, len));
  inj = λ i j h k e. o.inj i j (omega (arith, len)) (omega (arith, len)) e;
  parents = λ i j h k r. o.parents i j (omega (arith, len)) (omega (arith, len)) (back i j k r);
}
  where
    len : length (take n p) ≡ n
    len = length-take-le n p hn

    d : (i : ℕ) → i < n → depthAt (take n p) i ≡ depthAt p i
    d i h = ap (λ (x : ℕ). x / 1000) (get_or-take n p i 0 h)

    back : (i j : ℕ) → j < length (take n p) → IsParent (take n p) i j → IsParent p i j
    back i j k r =
        let bj : j < n = omega (arith, len) in
        let bi : i < n = omega (arith, r.before) in
        record {
          before = r.before;
          inside = omega arith;
          one_deeper = sym (d j bj) ∙ r.one_deeper ∙ ap suc (d i bi);
          between = λ m h h'. omega (arith, r.between m h h', d i bi, d m (omega arith));
        }

pub occ_comp : (p q r : List ℕ) (φ ψ : ℕ → ℕ) → Embeds p q φ → Embeds q r ψ → Embeds p r (λ i. ψ (φ i))
occ_comp p q r φ ψ o u = record {
  bound = λ i h. u.bound (φ i) (o.bound i h);
  labels = λ i h. o.labels i h ∙ u.labels (φ i) (o.bound i h);
  inj = λ i j h k e. o.inj i j h k (u.inj (φ i) (φ j) (o.bound i h) (o.bound j k) e);
  parents = λ i j h k t. u.parents (φ i) (φ j) (o.bound i h) (o.bound j k) (o.parents i j h k t);
}

pub same_sym : (s t : List ℕ) → IsTreeAnyDepth s → IsTreeAnyDepth t → SameByMap s t → SameByMap t s
same_sym s t vs vt e = go (tree_of s vs) (tree_of t vt)
  where
    go : TreeOf s → TreeOf t → SameByMap t s
    go x y =
        let ev = same_eqv x.root y.root x.kids y.kids x.labs y.labs (rw (x.reads, y.reads) at e) in
        rw (x.reads, y.reads) (eqv_same y.root x.root y.kids x.kids y.labs x.labs (eqv_sym ev))
