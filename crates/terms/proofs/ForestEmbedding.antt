-- Embeddings of forests: each tree of the pattern forest goes to a tree of its own of the data forest.
use mathlib.Core.Path.{◌≡◌, refl, ◌∙◌}
use Prim.Native.Nat.{ℕ, suc, ◌+◌, ◌≤◌}
use native.Mathlib.Omega.{arith}
use Rattle.terms.proofs.Forest.{Forest, nil, cons}
use Rattle.terms.proofs.ForestSort.{Reordered, eqv_nil, eqv_cons, eqv_swap, eqv_trans, eqv_refl, eqv_eq}

-- the tree (a, k) is one of the trees of g, and the others are h
pub data Pick (a : ℕ) (k : Forest) : Forest → Forest → Type 0 where
  here : {b : ℕ} {l s : Forest} → a ≡ b → k ≡ l → Pick a k (cons b l s) s
  there : {b : ℕ} {l s t : Forest} → Pick a k s t → Pick a k (cons b l s) (cons b l t)

pub data Embedding : Forest → Forest → Type 0 where
  emb_nil : {g : Forest} → Embedding nil g
  emb_cons : {a : ℕ} {k l s g h : Forest} → Pick a l g h → Embedding k l → Embedding s h → Embedding (cons a k s) g

-- a pattern tree sits at some node of the data forest
pub data OccursIn (a : ℕ) (k : Forest) : Forest → Type 0 where
  occ_here : {b : ℕ} {l s : Forest} → a ≡ b → Embedding k l → OccursIn a k (cons b l s)
  occ_kids : {b : ℕ} {l s : Forest} → OccursIn a k l → OccursIn a k (cons b l s)
  occ_sib : {b : ℕ} {l s : Forest} → OccursIn a k s → OccursIn a k (cons b l s)

-- a tree picked out of a forest, found again in the forest reordered
pub record FoundAgain (a : ℕ) (k g h : Forest) : Type 0 where
  pub kids : Forest
  pub rest : Forest
  pub pick : Pick a kids h rest
  pub same : Reordered k kids
  pub sames : Reordered g rest

pick_eqv : {a : ℕ} {k f g h : Forest} → Reordered f g → Pick a k f h → FoundAgain a k h g
pick_eqv {a = a} {k = k} {h = h} eqv_nil c = elim c [ ]
pick_eqv (eqv_cons e p q) (here d d') = record { kids = _; rest = _; pick = here (d ∙ e) refl; same = eqv_trans (eqv_eq d') p; sames = q }
pick_eqv (eqv_cons e p q) (there c) = let z = pick_eqv q c in record { kids = _; rest = _; pick = there z.pick; same = z.same; sames = eqv_cons e p z.sames }
pick_eqv (eqv_swap {k = k} {l = l} {s = s}) (here d d') = record { kids = _; rest = _; pick = there (here d refl); same = eqv_eq d'; sames = eqv_refl _ }
pick_eqv eqv_swap (there (here d d')) = record { kids = _; rest = _; pick = here d refl; same = eqv_eq d'; sames = eqv_refl _ }
pick_eqv eqv_swap (there (there c)) = record { kids = _; rest = _; pick = there (there c); same = eqv_refl _; sames = eqv_swap }
pick_eqv {k = k} (eqv_trans p q) c =
    let z = pick_eqv {k = k} p c in
    let w = pick_eqv {k = z.kids} q z.pick in
    record { kids = _; rest = _; pick = w.pick; same = eqv_trans z.same w.same; sames = eqv_trans z.sames w.sames }

pub emb_eqv : {f g h : Forest} → Embedding f g → Reordered g h → Embedding f h
emb_eqv emb_nil e = emb_nil
emb_eqv (emb_cons c p q) e = let z = pick_eqv e c in emb_cons z.pick (emb_eqv p z.same) (emb_eqv q z.sames)

abbrev pub size : Forest → ℕ
size nil = 0
size (cons a k s) = suc (size k + size s)

pub pick_size : {a : ℕ} {k g h : Forest} → Pick a k g h → size g ≡ suc (size k + size h)
pick_size (here e e') = rw e'
pick_size (there p) = omega (arith, pick_size p)

pick_front : {a : ℕ} {k g h : Forest} → Pick a k g h → Reordered (cons a k h) g
pick_front (here e e') = eqv_cons e (eqv_eq e') (eqv_refl _)
pick_front (there p) = eqv_trans eqv_swap (eqv_cons refl (eqv_refl _) (pick_front p))

pub emb_size : {f g : Forest} → Embedding f g → size f ≤ size g
emb_size emb_nil = omega arith
emb_size (emb_cons c p q) = omega (arith, pick_size c, emb_size p, emb_size q)

-- an embedding that leaves nothing over is a reordering
pub emb_full : {f g : Forest} → Embedding f g → size g ≤ size f → Reordered f g
emb_full {g = nil} emb_nil h = eqv_nil
emb_full {g = cons b l t} emb_nil h = absurd (omega arith)
emb_full (emb_cons c p q) h =
    let n = pick_size c in
    let m = emb_size p in
    let o = emb_size q in
    eqv_trans (eqv_cons refl (emb_full p (omega arith)) (emb_full q (omega arith))) (pick_front c)
