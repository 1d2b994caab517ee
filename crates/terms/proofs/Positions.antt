-- Occurrences as maps of positions, and as embeddings of forests.
use mathlib.Core.Path.{◌≡◌, refl, sym, ap, ◌∙◌, subst}
use mathlib.Core.Bool.{Bool, true, false}
use Prim.Native.Nat.{ℕ, zero, suc, ◌+◌, ◌-◌, ◌≤◌, ◌<◌}
use native.Mathlib.Omega.{arith}
use native.Mathlib.Decide.{dec_lt, ℕ_discrete}
use Rattle.terms.proofs.Decide.{choose}
use Rattle.terms.proofs.Forest.{Forest, nil, cons}
use Rattle.terms.proofs.ForestEmbedding.{Pick, here, there, Embedding, emb_nil, emb_cons, OccursIn, occ_here, occ_kids, occ_sib, size}

-- the tree that begins at position w of g, one of g's own trees, is (b, l)
pub data RootAt : Forest → ℕ → ℕ → Forest → Type 0 where
  at_here : {a w : ℕ} {k s : Forest} → w ≡ 0 → RootAt (cons a k s) w a k
  at_later : {a b w : ℕ} {k l s : Forest} (x : ℕ) → w ≡ suc (size k + x) → RootAt s x b l → RootAt (cons a k s) w b l

-- the tree that begins at position w, anywhere
pub data TreeAt : Forest → ℕ → ℕ → Forest → Type 0 where
  sub_here : {a w : ℕ} {k s : Forest} → w ≡ 0 → TreeAt (cons a k s) w a k
  sub_kids : {a b w : ℕ} {k l s : Forest} (x : ℕ) → w ≡ suc x → TreeAt k x b l → TreeAt (cons a k s) w b l
  sub_sib : {a b w : ℕ} {k l s : Forest} (x : ℕ) → w ≡ suc (size k + x) → TreeAt s x b l → TreeAt (cons a k s) w b l

-- position v is the parent of w
pub data ParentIn : Forest → ℕ → ℕ → Type 0 where
  par_root : {a b v w : ℕ} {k l s : Forest} (x : ℕ) → v ≡ 0 → w ≡ suc x → RootAt k x b l → ParentIn (cons a k s) v w
  par_kids : {a v w : ℕ} {k s : Forest} (x y : ℕ) → v ≡ suc x → w ≡ suc y → ParentIn k x y → ParentIn (cons a k s) v w
  par_sib : {a v w : ℕ} {k s : Forest} (x y : ℕ) → v ≡ suc (size k + x) → w ≡ suc (size k + y) → ParentIn s x y → ParentIn (cons a k s) v w

pub sub_below : {f l : Forest} {w b : ℕ} → TreeAt f w b l → w < size f
sub_below (sub_here e) = omega arith
sub_below (sub_kids x e h) = omega (arith, sub_below h)
sub_below (sub_sib x e h) = omega (arith, sub_below h)

pub at_sub : {f l : Forest} {w b : ℕ} → RootAt f w b l → TreeAt f w b l
at_sub (at_here e) = sub_here e
at_sub (at_later x e h) = sub_sib x e (at_sub h)

pub par_below : {f : Forest} {v w : ℕ} → ParentIn f v w → (v < size f) × (w < size f)
par_below (par_root x e e' h) = omega (arith, sub_below (at_sub h))
par_below (par_kids x y e e' h) = omega (arith, par_below h)
par_below (par_sib x y e e' h) = omega (arith, par_below h)

-- the children of a node are the trees below it
pub record Kid (v w : ℕ) (l : Forest) : Type 0 where
  pub off : ℕ
  pub label : ℕ
  pub kids : Forest
  pub pos : w ≡ suc (v + off)
  pub tree : RootAt l off label kids

pub sub_par : {f l : Forest} {v w b : ℕ} → TreeAt f v b l → ParentIn f v w → Kid v w l
sub_par (sub_here e) (par_root x e₁ e₂ h) = record { off = x; label = _; kids = _; pos = omega arith; tree = h }
sub_par (sub_here e) (par_kids x y e₁ e₂ h) = absurd (omega arith)
sub_par (sub_here e) (par_sib x y e₁ e₂ h) = absurd (omega arith)
sub_par (sub_kids z e s) (par_root x e₁ e₂ h) = absurd (omega arith)
sub_par (sub_kids z e s) (par_kids x y e₁ e₂ h) =
    let q : x ≡ z = omega arith in
    let r = sub_par s (rw q at h) in
    record { off = r.off; label = r.label; kids = r.kids; pos = omega (arith, r.pos); tree = r.tree }
sub_par (sub_kids z e s) (par_sib x y e₁ e₂ h) = absurd (omega (arith, sub_below s))
sub_par (sub_sib z e s) (par_root x e₁ e₂ h) = absurd (omega arith)
sub_par (sub_sib z e s) (par_kids x y e₁ e₂ h) = absurd (omega (arith, par_below h))
sub_par (sub_sib z e s) (par_sib x y e₁ e₂ h) =
    let q : x ≡ z = omega arith in
    let r = sub_par s (rw q at h) in
    record { off = r.off; label = r.label; kids = r.kids; pos = omega (arith, r.pos); tree = r.tree }

pub sub_at : {f l k : Forest} {v b j c : ℕ} → TreeAt f v b l → RootAt l j c k → TreeAt f (suc (v + j)) c k
sub_at {v} {j} (sub_here e) h = let q : suc (v + j) ≡ suc j = omega arith in sub_kids j q (at_sub h)
sub_at {v} {j} (sub_kids x e s) h = let q : suc (v + j) ≡ suc (suc (x + j)) = omega arith in sub_kids (suc (x + j)) q (sub_at s h)
sub_at {v} {j} (sub_sib {k = k} x e s) h = let q : suc (v + j) ≡ suc (size k + suc (x + j)) = omega arith in sub_sib (suc (x + j)) q (sub_at s h)

-- a position holds one tree only
pub sub_lab : {f l k : Forest} {v b c : ℕ} → TreeAt f v b l → TreeAt f v c k → b ≡ c
sub_lab (sub_here e) (sub_here e') = refl
sub_lab (sub_here e) (sub_kids x e' h) = absurd (omega arith)
sub_lab (sub_here e) (sub_sib x e' h) = absurd (omega arith)
sub_lab (sub_kids x e h) (sub_here e') = absurd (omega arith)
sub_lab (sub_kids x e h) (sub_kids y e' h') = let q : y ≡ x = omega arith in sub_lab h (rw q at h')
sub_lab (sub_kids x e h) (sub_sib y e' h') = absurd (omega (arith, sub_below h))
sub_lab (sub_sib x e h) (sub_here e') = absurd (omega arith)
sub_lab (sub_sib x e h) (sub_kids y e' h') = absurd (omega (arith, sub_below h'))
sub_lab (sub_sib x e h) (sub_sib y e' h') = let q : y ≡ x = omega arith in sub_lab h (rw q at h')

-- g without the trees at the marked positions
keep : Bool → ℕ → Forest → Forest → Forest
keep true b l r = r
keep false b l r = cons b l r

pub minus : Forest → (ℕ → Bool) → Forest
minus nil U = nil
minus (cons b l s) U = keep (U 0) b l (minus s (λ x. U (suc (size l + x))))

abbrev is : {v w : ℕ} → Dec (v ≡ w) → Bool → Bool
is (yes _) b = true
is (no _) b = b

pub mark : (ℕ → Bool) → ℕ → ℕ → Bool
mark U w x = is (ℕ_discrete x w) (U x)

mark_same : (U : ℕ → Bool) (w : ℕ) → mark U w w ≡ true
unfolding mark
mark_same U w = go (ℕ_discrete w w)
  where
    go : (d : Dec (w ≡ w)) → is d (U w) ≡ true
    go (yes _) = refl
    go (no h) = absurd (h refl)

pub mark_other : (U : ℕ → Bool) (w x : ℕ) → ¬ (x ≡ w) → mark U w x ≡ U x
unfolding mark
mark_other U w x h = go (ℕ_discrete x w)
  where
    go : (d : Dec (x ≡ w)) → is d (U x) ≡ U x
    go (yes e) = absurd (h e)
    go (no _) = refl

minus_ext : (g : Forest) (U W : ℕ → Bool) → ((x : ℕ) → U x ≡ W x) → minus g U ≡ minus g W
unfolding minus
minus_ext nil U W h = refl
minus_ext (cons b l s) U W h = rw (h 0, minus_ext s (λ x. U (suc (size l + x))) (λ x. W (suc (size l + x))) (λ x. h (suc (size l + x))))

pub minus_none : (g : Forest) → minus g (λ x. false) ≡ g
unfolding minus keep
minus_none nil = refl
minus_none (cons b l s) = rw (minus_none s)

pick_keep : (c : Bool) (a : ℕ) (k : Forest) {b : ℕ} {l r r' : Forest} → Pick b l r r' → Pick b l (keep c a k r) (keep c a k r')
unfolding keep
pick_keep true a k p = p
pick_keep false a k p = there p

mark_shift : (U : ℕ → Bool) (w n x y : ℕ) → w ≡ suc (n + x) → mark U w (suc (n + y)) ≡ mark (λ z. U (suc (n + z))) x y
mark_shift U w n x y e = go (ℕ_discrete y x)
  where
    go : Dec (y ≡ x) → mark U w (suc (n + y)) ≡ mark (λ z. U (suc (n + z))) x y
    go (yes q) =
        let q' : suc (n + y) ≡ w = omega arith in
        rw (q', q) (mark_same U w ∙ sym (mark_same (λ z. U (suc (n + z))) x))
    go (no q) = mark_other U w (suc (n + y)) (λ z. q (omega arith)) ∙ sym (mark_other (λ z. U (suc (n + z))) x y q)

picked : (a : ℕ) (k r : Forest) → Pick a k (keep false a k r) (keep true a k r)
unfolding keep
picked a k r = here refl refl

-- a tree that is not marked can be picked, and is marked then
pub pick_at : {g l : Forest} {w b : ℕ} (U : ℕ → Bool) → RootAt g w b l → U w ≡ false → Pick b l (minus g U) (minus g (mark U w))
unfolding minus
pick_at U (at_here {a = a} {w = w} {k = k} {s = s} e) h =
    let u0 : U 0 ≡ false = rw e at h in
    let m0 : mark U w 0 ≡ true = rw e (mark_same U 0) in
    let t : minus s (λ x. mark U w (suc (size k + x))) ≡ minus s (λ x. U (suc (size k + x))) =
    minus_ext s (λ x. mark U w (suc (size k + x))) (λ x. U (suc (size k + x))) (λ x. mark_other U w (suc (size k + x)) (λ q. omega arith)) in
    rw (u0, m0, t) (picked a k (minus s (λ x. U (suc (size k + x)))))
pick_at U (at_later {a = a} {w = w} {k = k} {s = s} x e p) h =
    let m0 : mark U w 0 ≡ U 0 = mark_other U w 0 (λ q. omega arith) in
    let t : minus s (λ y. mark U w (suc (size k + y))) ≡ minus s (mark (λ y. U (suc (size k + y))) x) =
    minus_ext s (λ y. mark U w (suc (size k + y))) (mark (λ y. U (suc (size k + y))) x) (λ y. mark_shift U w (size k) x y e) in
    rw (m0, t) (pick_keep (U 0) a k (pick_at (λ y. U (suc (size k + y))) p (rw e at h)))

-- φ carries the pattern forest p into the data forest D
pub record NodeMap (D p : Forest) (φ : ℕ → ℕ) : Type 0 where
  pub par : (i j : ℕ) → ParentIn p i j → ParentIn D (φ i) (φ j)
  pub label : (i a : ℕ) (k : Forest) → TreeAt p i a k → (l : Forest) × TreeAt D (φ i) a l
  pub inj : (i j : ℕ) → i < size p → j < size p → φ i ≡ φ j → i ≡ j
  pub bnd : (i : ℕ) → i < size p → φ i < size D

hom_kids : {D k s : Forest} {a : ℕ} {φ : ℕ → ℕ} → NodeMap D (cons a k s) φ → NodeMap D k (λ j. φ (suc j))
hom_kids h = record {
  par = λ i j p. h.par (suc i) (suc j) (par_kids i j refl refl p);
  label = λ i a k p. h.label (suc i) a k (sub_kids i refl p);
  inj = λ i j p q e. omega (arith, h.inj (suc i) (suc j) (omega arith) (omega arith) e);
  bnd = λ i p. h.bnd (suc i) (omega arith);
}

hom_sibs : {D k s : Forest} {a : ℕ} {φ : ℕ → ℕ} → NodeMap D (cons a k s) φ → NodeMap D s (λ j. φ (suc (size k + j)))
hom_sibs {k = k} h = record {
  par = λ i j p. h.par (suc (size k + i)) (suc (size k + j)) (par_sib i j refl refl p);
  label = λ i a l p. h.label (suc (size k + i)) a l (sub_sib i refl p);
  inj = λ i j p q e. omega (arith, h.inj (suc (size k + i)) (suc (size k + j)) (omega arith) (omega arith) e);
  bnd = λ i p. h.bnd (suc (size k + i)) (omega arith);
}

-- where a root of the pattern goes: to a tree of g that is not yet taken
pub record Goes (φj m : ℕ) (g : Forest) (U : ℕ → Bool) : Type 0 where
  pub off : ℕ
  pub label : ℕ
  pub kids : Forest
  pub pos : φj ≡ m + off
  pub tree : RootAt g off label kids
  pub fresh : U off ≡ false

hom_emb : (D p : Forest) (φ : ℕ → ℕ) (m : ℕ) (g : Forest) (U : ℕ → Bool) → NodeMap D p φ
    → ((w b : ℕ) (l : Forest) → RootAt g w b l → TreeAt D (m + w) b l)
    → ((j a : ℕ) (k : Forest) → RootAt p j a k → Goes (φ j) m g U) → Embedding p (minus g U)
hom_emb D nil φ m g U h place go = emb_nil
hom_emb D (cons a k s) φ m g U h place go =
    let z = go 0 a k (at_here refl) in
    let at0 : TreeAt D (m + z.off) z.label z.kids = place z.off z.label z.kids z.tree in
    let same : z.label ≡ a = sub_lab at0 (rw z.pos at (h.label 0 a k (sub_here refl)).1) in
    let pick : Pick a z.kids (minus g U) (minus g (mark U z.off)) = rw same at (pick_at U z.tree z.fresh) in
    let inner : Embedding k (minus z.kids (λ _. false)) =
    hom_emb D k (λ j. φ (suc j)) (suc (m + z.off)) z.kids (λ _. false) (hom_kids h)
    (λ w b l q. let e : suc (m + z.off) + w ≡ suc (m + z.off + w) = omega arith in rw e (sub_at at0 q))
    (λ j b l q.
    let r = sub_par at0 (rw z.pos at (h.par 0 (suc j) (par_root j refl refl q))) in
    record { off = r.off; label = r.label; kids = r.kids; pos = omega (arith, r.pos); tree = r.tree; fresh = refl }) in
    let rest : Embedding s (minus g (mark U z.off)) =
    hom_emb D s (λ j. φ (suc (size k + j))) m g (mark U z.off) (hom_sibs h) place
    (λ j b l q.
    let r = go (suc (size k + j)) b l (at_later j refl q) in
    let bound = sub_below (at_sub q) in
    let differ : ¬ (r.off ≡ z.off) = λ e. let w = h.inj (suc (size k + j)) 0 (omega arith) (omega arith) (r.pos ∙ ap (λ (y : ℕ). m + y) e ∙ sym z.pos) in omega arith in
    record { off = r.off; label = r.label; kids = r.kids; pos = r.pos; tree = r.tree; fresh = mark_other U z.off r.off differ ∙ r.fresh }) in
    emb_cons pick (rw minus_none at inner) rest

pub sub_occ : {D k l : Forest} {v a : ℕ} → TreeAt D v a l → Embedding k l → OccursIn a k D
sub_occ (sub_here e) m = occ_here refl m
sub_occ (sub_kids x e h) m = occ_kids (sub_occ h m)
sub_occ (sub_sib x e h) m = occ_sib (sub_occ h m)

-- B2: an occurrence by positions is an occurrence
pub hom_occ : (D k : Forest) (a : ℕ) (φ : ℕ → ℕ) → NodeMap D (cons a k nil) φ → OccursIn a k D
hom_occ D k a φ h =
    let z = h.label 0 a k (sub_here refl) in
    let inner : Embedding k (minus z.0 (λ _. false)) =
    hom_emb D k (λ j. φ (suc j)) (suc (φ 0)) z.0 (λ _. false) (hom_kids h)
    (λ w b l q. let e : suc (φ 0) + w ≡ suc (φ 0 + w) = omega arith in rw e (sub_at z.1 q))
    (λ j b l q.
    let r = sub_par z.1 (h.par 0 (suc j) (par_root j refl refl q)) in
    record { off = r.off; label = r.label; kids = r.kids; pos = omega (arith, r.pos); tree = r.tree; fresh = refl }) in
    sub_occ z.1 (rw minus_none at inner)

-- a map of the positions of `cons a k s` from one value and two maps
join : ℕ → ℕ → (ℕ → ℕ) → (ℕ → ℕ) → ℕ → ℕ
join n v f g zero = v
join n v f g (suc j) = choose (dec_lt j n) (f j) (g (j - n))

join_0 : (n v : ℕ) (f g : ℕ → ℕ) → join n v f g 0 ≡ v
unfolding join
join_0 n v f g = refl

join_k : (n v : ℕ) (f g : ℕ → ℕ) (x : ℕ) → x < n → join n v f g (suc x) ≡ f x
unfolding join
join_k n v f g x h = go (dec_lt x n)
  where
    go : (d : Dec (x < n)) → choose d (f x) (g (x - n)) ≡ f x
    go (yes _) = refl
    go (no z) = absurd (z h)

join_s : (n v : ℕ) (f g : ℕ → ℕ) (y : ℕ) → join n v f g (suc (n + y)) ≡ g y
unfolding join
join_s n v f g y = go (dec_lt (n + y) n)
  where
    go : (d : Dec (n + y < n)) → choose d (f (n + y)) (g (n + y - n)) ≡ g y
    go (yes z) = absurd (omega arith)
    go (no z) = let e : n + y - n ≡ y = omega arith in rw e

data View (n m i : ℕ) : Type 0 where
  v0 : i ≡ 0 → View n m i
  vk : (x : ℕ) → i ≡ suc x → x < n → View n m i
  vs : (y : ℕ) → i ≡ suc (n + y) → y < m → View n m i

view : (n m i : ℕ) → i < suc (n + m) → View n m i
view n m zero h = v0 refl
view n m (suc x) h = go (dec_lt x n)
  where
    go : Dec (x < n) → View n m (suc x)
    go (yes z) = vk x refl z
    go (no z) = vs (x - n) (omega arith) (omega arith)

module _ (D k s : Forest) (a v : ℕ) (f g : ℕ → ℕ)
    (root : (l : Forest) × TreeAt D v a l) (hf : NodeMap D k f) (hg : NodeMap D s g)
    (up : (x b : ℕ) (l : Forest) → RootAt k x b l → ParentIn D v (f x))
    (sep_f : (x : ℕ) → x < size k → ¬ (f x ≡ v)) (sep_g : (y : ℕ) → y < size s → ¬ (g y ≡ v))
    (sep : (x y : ℕ) → x < size k → y < size s → ¬ (f x ≡ g y)) where
  at0 : {i : ℕ} → i ≡ 0 → join (size k) v f g i ≡ v
  at0 e = rw e (join_0 (size k) v f g)

  atk : {i : ℕ} (x : ℕ) → i ≡ suc x → x < size k → join (size k) v f g i ≡ f x
  atk x e h = rw e (join_k (size k) v f g x h)

  ats : {i : ℕ} (y : ℕ) → i ≡ suc (size k + y) → join (size k) v f g i ≡ g y
  ats y e = rw e (join_s (size k) v f g y)

  hom_join : NodeMap D (cons a k s) (join (size k) v f g)
  hom_join = record { par = par'; label = lab'; inj = λ i j p q. inj' i j (view (size k) (size s) i p) (view (size k) (size s) j q); bnd = λ i p. bnd' i (view (size k) (size s) i p) }
    where
      par' : (i j : ℕ) → ParentIn (cons a k s) i j → ParentIn D (join (size k) v f g i) (join (size k) v f g j)
      par' i j (par_root x e e' t) = rw (at0 e, atk x e' (sub_below (at_sub t))) (up x _ _ t)
      par' i j (par_kids x y e e' p) = let b = par_below p in rw (atk x e b.0, atk y e' b.1) (hf.par x y p)
      par' i j (par_sib x y e e' p) = rw (ats x e, ats y e') (hg.par x y p)

      lab' : (i b : ℕ) (t : Forest) → TreeAt (cons a k s) i b t → (l : Forest) × TreeAt D (join (size k) v f g i) b l
      lab' i b t (sub_here e) = rw (at0 e) root
      lab' i b t (sub_kids x e p) = rw (atk x e (sub_below p)) (hf.label x b t p)
      lab' i b t (sub_sib y e p) = rw (ats y e) (hg.label y b t p)

      inj' : (i j : ℕ) → View (size k) (size s) i → View (size k) (size s) j → join (size k) v f g i ≡ join (size k) v f g j → i ≡ j
      inj' i j (v0 e) (v0 e') q = omega arith
      inj' i j (v0 e) (vk y e' b) q = absurd (sep_f y b (cc (at0 e, atk y e' b)))
      inj' i j (v0 e) (vs y e' b) q = absurd (sep_g y b (cc (at0 e, ats y e')))
      inj' i j (vk x e c) (v0 e') q = absurd (sep_f x c (cc (at0 e', atk x e c)))
      inj' i j (vk x e c) (vk y e' b) q = omega (arith, hf.inj x y c b (sym (atk x e c) ∙ q ∙ atk y e' b))
      inj' i j (vk x e c) (vs y e' b) q = absurd (sep x y c b (sym (atk x e c) ∙ q ∙ ats y e'))
      inj' i j (vs x e c) (v0 e') q = absurd (sep_g x c (cc (at0 e', ats x e)))
      inj' i j (vs x e c) (vk y e' b) q = absurd (sep y x b c (sym (atk y e' b) ∙ sym q ∙ ats x e))
      inj' i j (vs x e c) (vs y e' b) q = omega (arith, hg.inj x y c b (sym (ats x e) ∙ q ∙ ats y e'))

      bnd' : (i : ℕ) → View (size k) (size s) i → join (size k) v f g i < size D
      bnd' i (v0 e) = rw (at0 e) (sub_below root.1)
      bnd' i (vk x e b) = rw (atk x e b) (hf.bnd x b)
      bnd' i (vs y e b) = rw (ats y e) (hg.bnd y b)

-- the positions below a node
sub_in : {D l k : Forest} {v x b c : ℕ} → TreeAt D v b l → TreeAt l x c k → TreeAt D (suc (v + x)) c k
sub_in {v} {x} (sub_here e) h = let q : suc (v + x) ≡ suc x = omega arith in sub_kids x q h
sub_in {v} {x} (sub_kids y e s) h = let q : suc (v + x) ≡ suc (suc (y + x)) = omega arith in sub_kids (suc (y + x)) q (sub_in s h)
sub_in {v} {x} (sub_sib {k = k} y e s) h = let q : suc (v + x) ≡ suc (size k + suc (y + x)) = omega arith in sub_sib (suc (y + x)) q (sub_in s h)

par_in : {D l : Forest} {v x y b : ℕ} → TreeAt D v b l → ParentIn l x y → ParentIn D (suc (v + x)) (suc (v + y))
par_in {v} {x} {y} (sub_here e) h =
    let q : suc (v + x) ≡ suc x = omega arith in
    let r : suc (v + y) ≡ suc y = omega arith in
    par_kids x y q r h
par_in {v} {x} {y} (sub_kids z e s) h =
    let q : suc (v + x) ≡ suc (suc (z + x)) = omega arith in
    let r : suc (v + y) ≡ suc (suc (z + y)) = omega arith in
    par_kids (suc (z + x)) (suc (z + y)) q r (par_in s h)
par_in {v} {x} {y} (sub_sib {k = k} z e s) h =
    let q : suc (v + x) ≡ suc (size k + suc (z + x)) = omega arith in
    let r : suc (v + y) ≡ suc (size k + suc (z + y)) = omega arith in
    par_sib (suc (z + x)) (suc (z + y)) q r (par_in s h)

pub par_at : {D l k : Forest} {v x b c : ℕ} → TreeAt D v b l → RootAt l x c k → ParentIn D v (suc (v + x))
par_at {v} {x} (sub_here e) h = let q : suc (v + x) ≡ suc x = omega arith in par_root x e q h
par_at {v} {x} (sub_kids z e s) h = let q : suc (v + x) ≡ suc (suc (z + x)) = omega arith in par_kids z (suc (z + x)) e q (par_at s h)
par_at {v} {x} (sub_sib {k = k} z e s) h = let q : suc (v + x) ≡ suc (size k + suc (z + x)) = omega arith in par_sib z (suc (z + x)) e q (par_at s h)

sub_size : {D l : Forest} {v b : ℕ} → TreeAt D v b l → v + size l < size D
sub_size (sub_here e) = omega arith
sub_size (sub_kids x e h) = omega (arith, sub_size h)
sub_size (sub_sib x e h) = omega (arith, sub_size h)

hom_in : {D l : Forest} {v b : ℕ} → TreeAt D v b l → NodeMap D l (λ x. suc (v + x))
hom_in {l = l} h = record {
  par = λ i j p. par_in h p;
  label = λ i a k p. (k, sub_in h p);
  inj = λ i j p q e. omega arith;
  bnd = λ i p. omega (arith, sub_size h);
}

hom_skip : {s j : Forest} {c : ℕ} → NodeMap (cons c j s) s (λ x. suc (size j + x))
hom_skip = record {
  par = λ x y p. par_sib x y refl refl p;
  label = λ i a k p. (k, sub_sib i refl p);
  inj = λ x y p q e. omega arith;
  bnd = λ i p. omega arith;
}

hom_first : {s j : Forest} {c : ℕ} → NodeMap (cons c j s) j suc
hom_first = record {
  par = λ x y p. par_kids x y refl refl p;
  label = λ i a k p. (k, sub_kids i refl p);
  inj = λ x y p q e. omega arith;
  bnd = λ i p. omega arith;
}

hom_comp : {D g p : Forest} {ψ φ : ℕ → ℕ} → NodeMap D g ψ → NodeMap g p φ → NodeMap D p (λ x. ψ (φ x))
hom_comp {φ = φ} h k = record {
  par = λ i j p. h.par (φ i) (φ j) (k.par i j p);
  label = λ i a l p. let z = k.label i a l p in h.label (φ i) a z.0 z.1;
  inj = λ i j p q e. k.inj i j p q (h.inj (φ i) (φ j) (k.bnd i p) (k.bnd j q) e);
  bnd = λ i p. h.bnd (φ i) (k.bnd i p);
}

-- roots go to roots
pub Roots : Forest → Forest → (ℕ → ℕ) → Type 0
Roots g p φ = (x b : ℕ) (k : Forest) → RootAt p x b k → (c : ℕ) × (l : Forest) × RootAt g (φ x) c l

-- the positions of what is left when a tree is picked
record Lifted (a : ℕ) (l g h : Forest) : Type 0 where
  pos : ℕ
  up : ℕ → ℕ
  tree : RootAt g pos a l
  hom : NodeMap g h up
  roots : Roots g h up
  away : (y : ℕ) → y < size h → pos ≤ up y → up y ≤ pos + size l → ⊥

lift : {a : ℕ} {l g h : Forest} → Pick a l g h → Lifted a l g h
unfolding Roots
lift {a} {l} (here {b = b} {l = l'} {s = s} e e') = record {
  pos = 0;
  up = λ x. suc (size l' + x);
  tree = subst (λ (z : ℕ). RootAt (cons b l' s) 0 z l) (sym e) (subst (λ (z : Forest). RootAt (cons b l' s) 0 b z) (sym e') (at_here refl));
  hom = hom_skip;
  roots = λ x c k p. (c, k, at_later x refl p);
  away = λ y p q r. omega (arith, ap size e');
}
lift {a} {l} (there {b = c} {l = j} {s = s} {t = t} p) =
    let z = lift p in
    record {
      pos = suc (size j + z.pos);
      up = join (size j) 0 suc (λ y. suc (size j + z.up y));
      tree = at_later z.pos refl z.tree;
      hom = hom_join (cons c j s) j t c 0 suc (λ y. suc (size j + z.up y)) (j, sub_here refl) hom_first (hom_comp hom_skip z.hom)
          (λ x b l q. par_root x refl refl q) (λ x h e. omega arith) (λ x h e. omega arith) (λ x y h h' e. omega arith);
      roots = λ x b k q. rts z x b k q;
      away = λ y h q r. aw z y (view (size j) (size t) y h) q r;
    }
  where
    jn : Lifted a l s t → ℕ → ℕ
    jn z = join (size j) 0 suc (λ y. suc (size j + z.up y))

    j0 : (z : Lifted a l s t) {x : ℕ} → x ≡ 0 → jn z x ≡ 0
    j0 z e = rw e (join_0 (size j) 0 suc (λ y. suc (size j + z.up y)))

    jk : (z : Lifted a l s t) {i : ℕ} (x : ℕ) → i ≡ suc x → x < size j → jn z i ≡ suc x
    jk z x e b = rw e (join_k (size j) 0 suc (λ y. suc (size j + z.up y)) x b)

    js : (z : Lifted a l s t) {i : ℕ} (x : ℕ) → i ≡ suc (size j + x) → jn z i ≡ suc (size j + z.up x)
    js z x e = rw e (join_s (size j) 0 suc (λ y. suc (size j + z.up y)) x)

    rts : (z : Lifted a l s t) (x b : ℕ) (k : Forest) → RootAt (cons c j t) x b k → (c' : ℕ) × (l' : Forest) × RootAt (cons c j s) (jn z x) c' l'
    rts z x b k (at_here e) = (c, j, at_here (j0 z e))
    rts z x b k (at_later y e q) = let r = z.roots y b k q in (r.0, r.1, at_later (z.up y) (js z y e) r.2)

    aw : (z : Lifted a l s t) (y : ℕ) → View (size j) (size t) y → suc (size j + z.pos) ≤ jn z y → jn z y ≤ suc (size j + z.pos) + size l → ⊥
    aw z y (v0 e) q r = omega (arith, j0 z e)
    aw z y (vk x e b) q r = omega (arith, jk z x e b)
    aw z y (vs x e b) q r = z.away x b (omega (arith, js z x e)) (omega (arith, js z x e))

-- B3: an embedding is a map of positions
pub record NodeMaps (g p : Forest) : Type 0 where
  pub map : ℕ → ℕ
  pub hom : NodeMap g p map
  pub roots : Roots g p map

emb_hom : {p g : Forest} → Embedding p g → NodeMaps g p
unfolding Roots
emb_hom emb_nil = record {
  map = λ x. x;
  hom = record {
    par = λ i j p. absurd (omega (arith, par_below p));
    label = λ i a k p. absurd (omega (arith, sub_below p));
    inj = λ i j p q e. e;
    bnd = λ i p. absurd (omega arith);
  };
  roots = λ x b k p. absurd (omega (arith, sub_below (at_sub p)));
}
emb_hom (emb_cons {a = a} {k = k} {l = l} {s = s} {g = g} {h = h} c p q) = build (lift c) (emb_hom p) (emb_hom q)
  where
    build : Lifted a l g h → NodeMaps l k → NodeMaps h s → NodeMaps g (cons a k s)
    build z x y = record { map = m; hom = hom'; roots = rts }
      where
        f : ℕ → ℕ
        f i = suc (z.pos + x.map i)

        e : ℕ → ℕ
        e i = z.up (y.map i)

        m : ℕ → ℕ
        m = join (size k) z.pos f e

        hom' : NodeMap g (cons a k s) m
        hom' = hom_join g k s a z.pos f e (l, at_sub z.tree) (hom_comp (hom_in (at_sub z.tree)) x.hom) (hom_comp z.hom y.hom)
            (λ i b t r. par_at (at_sub z.tree) (x.roots i b t r).2) (λ i r w. omega arith)
            (λ i r w. z.away (y.map i) (y.hom.bnd i r) (omega arith) (omega arith))
            (λ i j r t w. z.away (y.map j) (y.hom.bnd j t) (omega arith) (omega (arith, x.hom.bnd i r)))

        rts : (i b : ℕ) (t : Forest) → RootAt (cons a k s) i b t → (c' : ℕ) × (l' : Forest) × RootAt g (m i) c' l'
        rts i b t (at_here r) = (a, l, rw (r, join_0 (size k) z.pos f e) z.tree)
        rts i b t (at_later j r w) =
            let u = y.roots j b t w in
            let o = z.roots (y.map j) u.0 u.1 u.2 in
            (o.0, o.1, rw (r, join_s (size k) z.pos f e j) o.2)

hom_nil : {D : Forest} {φ : ℕ → ℕ} → NodeMap D nil φ
hom_nil = record {
  par = λ i j p. absurd (omega (arith, par_below p));
  label = λ i a k p. absurd (omega (arith, sub_below p));
  inj = λ i j p q e. absurd (omega arith);
  bnd = λ i p. absurd (omega arith);
}

pub occ_hom : {a : ℕ} {k D : Forest} → OccursIn a k D → (φ : ℕ → ℕ) × NodeMap D (cons a k nil) φ
unfolding Roots
occ_hom {a = a} {k = k} (occ_here {b = b} {l = l} {s = s} e m) =
    let z = emb_hom m in
    let f : ℕ → ℕ = λ x. suc (0 + z.map x) in
    let r : TreeAt (cons b l s) 0 a l = rw e (sub_here refl) in
    (join (size k) 0 f (λ x. x), hom_join (cons b l s) k nil a 0 f (λ x. x) (l, r) (hom_comp (hom_in r) z.hom) hom_nil (λ i c t q. par_at r (z.roots i c t q).2) (λ i p q. omega arith) (λ i p q. omega arith) (λ i j p q w. omega arith))
occ_hom (occ_kids m) = let z = occ_hom m in (_, hom_comp hom_first z.1)
occ_hom (occ_sib m) = let z = occ_hom m in (_, hom_comp hom_skip z.1)
