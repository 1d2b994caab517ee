-- Positions of a forest and indices of its sequence.
use mathlib.Core.Path.{◌≡◌, refl, sym, ap, ◌∙◌}
use mathlib.Core.List.{List, [], ◌∷◌}
use Prim.Native.Nat.{ℕ, zero, suc, ◌+◌, ◌-◌, ◌*◌, ◌/◌, ◌≤◌, ◌<◌}
use native.Mathlib.Omega.{arith}
use native.Mathlib.Decide.{dec_lt}
use lib.ListN.{length, get_or}
use Rattle.terms.specs.Tree.{depthAt, label_at, IsParent}
use Rattle.terms.proofs.Forest.{Forest, nil, cons}
use Rattle.terms.proofs.ForestEmbedding.{size, OccursIn}
use Rattle.terms.proofs.Preorder.{preorder, Labelled, lab_cons, Shallower, low_nil, low_cons, low_enc, enc_size}
use Rattle.terms.proofs.Positions.{RootAt, at_here, at_later, TreeAt, sub_here, sub_kids, sub_sib, ParentIn, par_root, par_kids, par_sib, sub_below, at_sub, par_below, NodeMap, hom_occ, occ_hom}

-- the node at a position of f, in the sequence
record Node (s : List ℕ) (i d a : ℕ) : Type 0 where
  deep : ℕ
  high : d ≤ deep
  small : a < 1000
  big : 1 ≤ a
  is : get_or s i 0 ≡ 1000 * deep + a

pub enc_skip : (k : Forest) (e x : ℕ) (t : List ℕ) → get_or (preorder e k t) (size k + x) 0 ≡ get_or t x 0
enc_skip nil e x t = let q : 0 + x ≡ x = omega arith in rw q
enc_skip (cons a k s) e x t =
    let q : suc (size k + size s) + x ≡ suc (size k + (size s + x)) = omega arith in
    rw q (enc_skip k (suc e) (size s + x) (preorder e s t) ∙ enc_skip s e x t)

sub_node : {f k : Forest} {i a : ℕ} (d : ℕ) (t : List ℕ) → Labelled f → TreeAt f i a k → Node (preorder d f t) i d a
sub_node {k = k} {i = i} {a = a} d t Rattle.terms.proofs.Preorder.lab_nil x3 = elim x3 [ ]
sub_node d t (lab_cons p q _ _) (sub_here e) = record { deep = d; high = omega arith; small = q; big = p; is = rw e }
sub_node d t (lab_cons {s = s} _ _ lk ls) (sub_kids x e h) =
    let z = sub_node (suc d) (preorder d s t) lk h in
    record { deep = z.deep; high = omega (arith, z.high); small = z.small; big = z.big; is = rw e z.is }
sub_node d t (lab_cons {k = k} {s = s} _ _ lk ls) (sub_sib x e h) =
    let z = sub_node d t ls h in
    record { deep = z.deep; high = z.high; small = z.small; big = z.big; is = rw e (enc_skip k (suc d) x (preorder d s t) ∙ z.is) }

at_node : {f k : Forest} {i a : ℕ} (d : ℕ) (t : List ℕ) → Labelled f → RootAt f i a k → depthAt (preorder d f t) i ≡ d
at_node {k = k} {i = i} {a = a} d t Rattle.terms.proofs.Preorder.lab_nil x3 = elim x3 [ ]
at_node d t (lab_cons {a = a} p q _ _) (at_here e) = rw e (omega arith)
at_node d t (lab_cons {k = k} {s = s} _ _ lk ls) (at_later x e h) =
    rw e (ap (λ (z : ℕ). z / 1000) (enc_skip k (suc d) x (preorder d s t)) ∙ at_node d t ls h)

pub record Some (f : Forest) (i : ℕ) : Type 0 where
  pub name : ℕ
  pub kids : Forest
  pub tree : TreeAt f i name kids

pub some : (f : Forest) (i : ℕ) → i < size f → Some f i
some nil i h = absurd (omega arith)
some (cons a k s) zero h = record { name = a; kids = k; tree = sub_here refl }
some (cons a k s) (suc i) h = go (dec_lt i (size k)) (λ p. some k i p) (λ p. some s (i - size k) p)
  where
    go : Dec (i < size k) → (i < size k → Some k i) → (i - size k < size s → Some s (i - size k)) → Some (cons a k s) (suc i)
    go (yes p) f g = let z = f p in record { name = z.name; kids = z.kids; tree = sub_kids i refl z.tree }
    go (no p) f g = let z = g (omega arith) in let e : suc i ≡ suc (size k + (i - size k)) = omega arith in record { name = z.name; kids = z.kids; tree = sub_sib (i - size k) e z.tree }

pub dep_ge : (f : Forest) (d : ℕ) (t : List ℕ) (i : ℕ) → Labelled f → i < size f → d ≤ depthAt (preorder d f t) i
dep_ge f d t i l h = let z = sub_node d t l (some f i h).tree in omega (arith, z.is, z.high, z.small)

-- one more in front, and a forest in front
par_suc : {s : List ℕ} {i j : ℕ} (y : ℕ) → IsParent s i j → IsParent (y ∷ s) (suc i) (suc j)
par_suc {s} {i} {j} y p = record { before = omega (arith, p.before); inside = omega (arith, p.inside); one_deeper = p.one_deeper; between = btw }
  where
    btw : (m : ℕ) → suc i < m → m < suc j → depthAt s i < depthAt (y ∷ s) m
    btw zero h q = absurd (omega arith)
    btw (suc m) h q = p.between m (omega arith) (omega arith)

par_pred : {s : List ℕ} {i j : ℕ} {y : ℕ} → IsParent (y ∷ s) (suc i) (suc j) → IsParent s i j
par_pred p = record { before = omega (arith, p.before); inside = omega (arith, p.inside); one_deeper = p.one_deeper; between = λ m h q. p.between (suc m) (omega arith) (omega arith) }

par_skip : (k : Forest) (e : ℕ) {t : List ℕ} {i j : ℕ} → IsParent t i j → IsParent (preorder e k t) (size k + i) (size k + j)
par_skip k e {t} {i} {j} p = record { before = omega (arith, p.before); inside = omega (arith, p.inside, enc_size k e t); one_deeper = rw (enc_skip k e i t, enc_skip k e j t) p.one_deeper; between = btw }
  where
    btw : (m : ℕ) → size k + i < m → m < size k + j → depthAt (preorder e k t) (size k + i) < depthAt (preorder e k t) m
    btw m h q =
        let z : size k + (m - size k) ≡ m = omega arith in
        rw (← z, enc_skip k e i t, enc_skip k e (m - size k) t) (p.between (m - size k) (omega arith) (omega arith))

par_unskip : (k : Forest) (e : ℕ) {t : List ℕ} {i j : ℕ} → IsParent (preorder e k t) (size k + i) (size k + j) → IsParent t i j
par_unskip k e {t} {i} {j} p = record { before = omega (arith, p.before); inside = omega (arith, p.inside, enc_size k e t); one_deeper = rw (enc_skip k e i t, enc_skip k e j t) at p.one_deeper; between = btw }
  where
    btw : (m : ℕ) → i < m → m < j → depthAt t i < depthAt t m
    btw m h q = rw (enc_skip k e i t, enc_skip k e m t) at (p.between (size k + m) (omega arith) (omega arith))

-- B1, from positions to indices
pub par_seq : {f : Forest} {i j : ℕ} (d : ℕ) (t : List ℕ) → Labelled f → ParentIn f i j → IsParent (preorder d f t) i j
par_seq {i = i} {j = j} d t Rattle.terms.proofs.Preorder.lab_nil x3 = elim x3 [ ]
par_seq d t (lab_cons {a = a} {k = k} {s = s} p q lk ls) (par_root x e e' h) = rw (e, e') root
  where
    t' : List ℕ
    t' = preorder d s t

    d0 : (1000 * d + a) / 1000 ≡ d
    d0 = omega arith

    btw : (m : ℕ) → 0 < m → m < suc x → (1000 * d + a) / 1000 < depthAt ((1000 * d + a) ∷ preorder (suc d) k t') m
    btw zero b c = absurd (omega arith)
    btw (suc m) b c = omega (arith, dep_ge k (suc d) t' m lk (omega (arith, sub_below (at_sub h))), d0)

    root : IsParent ((1000 * d + a) ∷ preorder (suc d) k t') 0 (suc x)
    root = record { before = omega arith; inside = omega (arith, enc_size k (suc d) t', sub_below (at_sub h)); one_deeper = at_node (suc d) t' lk h ∙ ap suc (sym d0); between = btw }
par_seq d t (lab_cons {a = a} {s = s} p q lk ls) (par_kids x y e e' h) = rw (e, e') (par_suc (1000 * d + a) (par_seq (suc d) (preorder d s t) lk h))
par_seq d t (lab_cons {a = a} {k = k} p q lk ls) (par_sib x y e e' h) = rw (e, e') (par_suc (1000 * d + a) (par_skip k (suc d) (par_seq d t ls h)))

record Rooted (f : Forest) (x : ℕ) : Type 0 where
  pub name : ℕ
  pub kids : Forest
  tree : RootAt f x name kids

pub low_head : {e : ℕ} {t : List ℕ} → Shallower e t → 0 < length t → depthAt t 0 < e
low_head low_nil h = absurd (omega arith)
low_head {e} (low_cons q) h = omega arith

-- the first at its depth, with nothing shallower before, is a root
dep_at : (k : Forest) (e x : ℕ) (t : List ℕ) → Labelled k → Shallower e t → x < length (preorder e k t) → depthAt (preorder e k t) x ≡ e
    → ((m : ℕ) → m < x → e ≤ depthAt (preorder e k t) m) → Rooted k x
dep_at nil e zero t l lo h q b = absurd (omega (arith, low_head lo h))
dep_at nil e (suc x) t l lo h q b = absurd (omega (arith, low_head lo (omega arith), b 0 (omega arith)))
dep_at (cons a k s) e zero t l lo h q b = record { name = a; kids = k; tree = at_here refl }
dep_at (cons a k s) e (suc x) t (lab_cons _ _ lk ls) lo h q b = go (dec_lt x (size k)) (λ u v w. dep_at s e (x - size k) t ls lo u v w)
  where
    t' : List ℕ
    t' = preorder e s t

    go : Dec (x < size k) → (x - size k < length (preorder e s t) → depthAt (preorder e s t) (x - size k) ≡ e → ((m : ℕ) → m < x - size k → e ≤ depthAt (preorder e s t) m) → Rooted s (x - size k))
        → Rooted (cons a k s) (suc x)
    go (yes z) f = absurd (omega (arith, dep_ge k (suc e) t' x lk z))
    go (no z) f =
        let c : size k + (x - size k) ≡ x = omega arith in
        let q' : depthAt (preorder (suc e) k t') (size k + (x - size k)) ≡ e = rw c q in
        let r = f (omega (arith, enc_size k (suc e) t')) (rw (enc_skip k (suc e) (x - size k) t') at q')
        (λ m y. rw (enc_skip k (suc e) m t') at (b (suc (size k + m)) (omega arith))) in
        let c' : suc x ≡ suc (size k + (x - size k)) = omega arith in
        record { name = r.name; kids = r.kids; tree = at_later (x - size k) c' r.tree }

-- B1, from indices to positions
pub seq_par : (f : Forest) (d : ℕ) (t : List ℕ) (i j : ℕ) → Labelled f → Shallower d t → i < size f → IsParent (preorder d f t) i j → ParentIn f i j
seq_par nil d t i j l lo h p = absurd (omega arith)
seq_par (cons a k s) d t i zero l lo h p = absurd (omega (arith, p.before))
seq_par (cons a k s) d t zero (suc j) (lab_cons _ sm lk ls) lo h p =
    let d0 : (1000 * d + a) / 1000 ≡ d = omega arith in
    let r = dep_at k (suc d) j (preorder d s t) lk (low_enc d t ls lo) (omega (arith, p.inside)) (p.one_deeper ∙ ap suc d0)
    (λ m y. omega (arith, p.between (suc m) (omega arith) (omega arith), d0)) in
    par_root j refl refl r.tree
seq_par (cons a k s) d t (suc i) (suc j) (lab_cons _ sm lk ls) lo h p = go (dec_lt i (size k)) (dec_lt j (size k)) (λ u v. seq_par k (suc d) (preorder d s t) i j lk (low_enc d t ls lo) u v) (λ u v. seq_par s d t (i - size k) (j - size k) ls lo u v)
  where
    t' : List ℕ
    t' = preorder d s t

    p' : IsParent (preorder (suc d) k t') i j
    p' = par_pred p

    go : Dec (i < size k) → Dec (j < size k) → (i < size k → IsParent (preorder (suc d) k t') i j → ParentIn k i j) → (i - size k < size s → IsParent t' (i - size k) (j - size k) → ParentIn s (i - size k) (j - size k))
        → ParentIn (cons a k s) (suc i) (suc j)
    go (yes u) w f g = par_kids i j refl refl (f u p')
    go (no u) (yes w) f g = absurd (omega (arith, p.before))
    go (no u) (no w) f g =
        let ei : size k + (i - size k) ≡ i = omega arith in
        let ej : size k + (j - size k) ≡ j = omega arith in
        let ei' : suc i ≡ suc (size k + (i - size k)) = omega arith in
        let ej' : suc j ≡ suc (size k + (j - size k)) = omega arith in
        let q : IsParent (preorder (suc d) k t') (size k + (i - size k)) (size k + (j - size k)) = rw (ei, ej) p' in
        par_sib (i - size k) (j - size k) ei' ej' (g (omega arith) (par_unskip k (suc d) q))

-- an occurrence of the sequence p in the sequence q, by indices: the definition of the task
pub record Embeds (p q : List ℕ) (φ : ℕ → ℕ) : Type 0 where
  pub bound : (i : ℕ) → i < length p → φ i < length q
  pub labels : (i : ℕ) → i < length p → label_at p i ≡ label_at q (φ i)
  pub inj : (i j : ℕ) → i < length p → j < length p → φ i ≡ φ j → i ≡ j
  pub parents : (i j : ℕ) → i < length p → j < length p → IsParent p i j → IsParent q (φ i) (φ j)

pub sub_label : {f k : Forest} {i a : ℕ} (d : ℕ) (t : List ℕ) → Labelled f → TreeAt f i a k → label_at (preorder d f t) i ≡ a
sub_label d t l h = let z = sub_node d t l h in omega (arith, z.is, z.small)

pub size_len : (f : Forest) (d : ℕ) → length (preorder d f []) ≡ size f
size_len f d = omega (arith, enc_size f d [])

pub occs_hom : (P D : Forest) (φ : ℕ → ℕ) → Labelled P → Labelled D → Embeds (preorder 0 P []) (preorder 0 D []) φ → NodeMap D P φ
occs_hom P D φ lp ld o = record { par = par'; label = lab'; inj = λ i j p q e. o.inj i j (omega (arith, size_len P 0)) (omega (arith, size_len P 0)) e; bnd = λ i p. omega (arith, o.bound i (omega (arith, size_len P 0)), size_len D 0) }
  where
    par' : (i j : ℕ) → ParentIn P i j → ParentIn D (φ i) (φ j)
    par' i j p =
        let b = par_below p in
        let bi : i < length (preorder 0 P []) = omega (arith, size_len P 0, b.0) in
        let bj : j < length (preorder 0 P []) = omega (arith, size_len P 0, b.1) in
        seq_par D 0 [] (φ i) (φ j) ld low_nil (omega (arith, o.bound i bi, size_len D 0)) (o.parents i j bi bj (par_seq 0 [] lp p))

    lab' : (i a : ℕ) (k : Forest) → TreeAt P i a k → (l : Forest) × TreeAt D (φ i) a l
    lab' i a k h =
        let b = sub_below h in
        let bi : i < length (preorder 0 P []) = omega (arith, size_len P 0) in
        let z = some D (φ i) (omega (arith, o.bound i bi, size_len D 0)) in
        let e : z.name ≡ a = sym (sub_label 0 [] ld z.tree) ∙ sym (o.labels i bi) ∙ sub_label 0 [] lp h in
        (z.kids, rw e at z.tree)

pub hom_occs : (P D : Forest) (φ : ℕ → ℕ) → Labelled P → Labelled D → NodeMap D P φ → Embeds (preorder 0 P []) (preorder 0 D []) φ
hom_occs P D φ lp ld h = record {
  bound = λ i b. omega (arith, h.bnd i (omega (arith, size_len P 0)), size_len D 0);
  labels = lab';
  inj = λ i j p q e. h.inj i j (omega (arith, size_len P 0)) (omega (arith, size_len P 0)) e;
  parents = λ i j p q r. par_seq 0 [] ld (h.par i j (seq_par P 0 [] i j lp low_nil (omega (arith, size_len P 0)) r));
}
  where
    lab' : (i : ℕ) → i < length (preorder 0 P []) → label_at (preorder 0 P []) i ≡ label_at (preorder 0 D []) (φ i)
    lab' i b =
        let z = some P i (omega (arith, size_len P 0)) in
        let w = h.label i z.name z.kids z.tree in
        sub_label 0 [] lp z.tree ∙ sym (sub_label 0 [] ld w.1)

-- B: the index definition of an occurrence, and the inductive one
pub occs_occ : (a : ℕ) (k D : Forest) (φ : ℕ → ℕ) → Labelled (cons a k nil) → Labelled D → Embeds (preorder 0 (cons a k nil) []) (preorder 0 D []) φ → OccursIn a k D
occs_occ a k D φ lp ld o = hom_occ D k a φ (occs_hom (cons a k nil) D φ lp ld o)

pub occ_occs : (a : ℕ) (k D : Forest) → Labelled (cons a k nil) → Labelled D → OccursIn a k D → (φ : ℕ → ℕ) × Embeds (preorder 0 (cons a k nil) []) (preorder 0 D []) φ
occ_occs a k D lp ld o = let z = occ_hom o in (z.0, hom_occs (cons a k nil) D z.0 lp ld z.1)
