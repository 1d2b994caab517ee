-- The theory at sequences: valid sequences, the same unordered tree, canonical sequences.
use mathlib.Core.Path.{◌≡◌, refl, sym, ap, ◌∙◌}
use mathlib.Core.List.{List, [], ◌∷◌}
use Prim.Native.Nat.{ℕ, zero, suc, ◌+◌, ◌-◌, ◌*◌, ◌/◌, ◌%◌, ◌≤◌, ◌<◌}
use native.Mathlib.Omega.{arith}
use lib.ListN.{length, take}
use lib.Seq.{take-nil}
use Rattle.terms.specs.Order.{Lighter}
use Rattle.terms.specs.Tree.{depthAt, label_at, IsTreeAnyDepth}
use Rattle.terms.proofs.Forest.{Forest, nil, cons, ForestLe, le_lt, le_eq, ForestLeftHeavy, not_lt, pre_lh, Prefix, pre_nil, pre_kids, pre_sib}
use Rattle.terms.proofs.ForestSort.{Reordered, eqv_cons, eqv_nil, eqv_trans, eqv_sym, eqv_swap, lh_heaviest, sort, lh_sorted, eqv_sort, sort_le}
use Rattle.terms.proofs.ForestEmbedding.{size, OccursIn, occ_here, occ_kids, occ_sib, Embedding, emb_full, emb_size, emb_eqv, Pick, here, there, emb_nil, emb_cons}
use Rattle.terms.proofs.Preorder.{preorder, Labelled, lab_nil, lab_cons, low_nil, enc_size, enc_lx, lx_enc, Climbing, up_nil, up_cons, parse, Parsed, up_enc, take_forest, take_forest_prefix, take_enc}
use Rattle.terms.proofs.PreorderLinks.{Embeds, occs_occ, occ_occs, enc_skip, dep_ge, size_len}

to_up : (s : List ℕ) (d : ℕ) → (0 < length s → depthAt s 0 ≤ d) → ((i : ℕ) → i < length s → 1 ≤ label_at s i)
    → ((i : ℕ) → suc i < length s → depthAt s (suc i) ≤ suc (depthAt s i)) → Climbing d s
to_up [] d h n st = up_nil
to_up (x ∷ s) d h n st = up_cons (h (omega arith)) (n 0 (omega arith)) (to_up s (suc (x / 1000)) (λ q. st 0 (omega arith)) (λ i q. n (suc i) (omega arith)) (λ i q. st (suc i) (omega arith)))

up_head : {d : ℕ} {s : List ℕ} → Climbing d s → 0 < length s → depthAt s 0 ≤ d
up_head up_nil h = absurd (omega arith)
up_head (up_cons p q u) h = p

up_named : {d : ℕ} {s : List ℕ} → Climbing d s → (i : ℕ) → i < length s → 1 ≤ label_at s i
up_named up_nil i h = absurd (omega arith)
up_named (up_cons p q u) zero h = q
up_named (up_cons p q u) (suc i) h = up_named u i (omega arith)

up_steps : {d : ℕ} {s : List ℕ} → Climbing d s → (i : ℕ) → suc i < length s → depthAt s (suc i) ≤ suc (depthAt s i)
up_steps up_nil i h = absurd (omega arith)
up_steps (up_cons p q u) zero h = up_head u (omega arith)
up_steps (up_cons p q u) (suc i) h = up_steps u i (omega arith)

-- a valid sequence is the sequence of a tree
pub record TreeOf (s : List ℕ) : Type 0 where
  pub root : ℕ
  pub kids : Forest
  pub labs : Labelled (cons root kids nil)
  pub reads : s ≡ preorder 0 (cons root kids nil) []

pub tree_of : (s : List ℕ) → IsTreeAnyDepth s → TreeOf s
tree_of [] v = absurd (omega (arith, v.has_root))
tree_of (x ∷ s) v = go (parse (length s) 1 s (omega arith) (to_up s 1 first (λ i h. v.labels_from_1 (suc i) (omega arith)) (λ i h. v.later_to_next (suc i) (omega arith))))
  where
    first : 0 < length s → depthAt s 0 ≤ 1
    first h = omega (arith, v.later_to_next 0 (omega arith))

    done : (z : Parsed 1 s) (r : List ℕ) → r ≡ z.rest → Climbing 0 r → r ≡ []
    done z [] e u = refl
    done z (y ∷ r) e (up_cons p q u) =
        let g : depthAt s (size z.tree + 0) ≡ y / 1000 = rw (z.reads, ← e) (ap (λ (n : ℕ). n / 1000) (enc_skip z.tree 1 0 (y ∷ r))) in
        let b : suc (size z.tree + 0) < suc (length s) = omega (arith, ap length z.reads, enc_size z.tree 1 z.rest, ap length e) in
        absurd (omega (arith, v.later_from_1 (size z.tree + 0) b))

    go : Parsed 1 s → TreeOf (x ∷ s)
    go z =
        let e : z.rest ≡ [] = done z z.rest refl z.rem in
        let ex : x ≡ 1000 * 0 + x % 1000 = omega arith in
        record {
          root = x % 1000;
          kids = z.tree;
          labs = lab_cons (v.labels_from_1 0 (omega arith)) (omega arith) z.labs lab_nil;
          reads = cc (ex, z.reads, e);
        }

pub tree_valid : (a : ℕ) (k : Forest) → Labelled (cons a k nil) → IsTreeAnyDepth (preorder 0 (cons a k nil) [])
tree_valid a k l =
    let u = up_enc 0 [] l up_nil in
    record {
      has_root = omega arith;
      labels_from_1 = up_named u;
      root_depth = omega (arith, up_head u (omega arith));
      later_from_1 = λ i h. deep' l i (omega (arith, enc_size k 1 []));
      later_to_next = up_steps u;
    }
  where
    deep' : Labelled (cons a k nil) → (i : ℕ) → i < size k → 1 ≤ depthAt (preorder 1 k []) i
    deep' (lab_cons _ _ lk _) i h = dep_ge k 1 [] i lk h

-- the same unordered tree: as many nodes, and one occurs in the other
pub record SameByMap (s t : List ℕ) : Type 0 where
  pub size : length s ≡ length t
  pub map : ℕ → ℕ
  pub occurs : Embeds s t map

occ_size : {a : ℕ} {k D : Forest} → OccursIn a k D → size k < size D
occ_size (occ_here e m) = omega (arith, emb_size m)
occ_size (occ_kids m) = omega (arith, occ_size m)
occ_size (occ_sib m) = omega (arith, occ_size m)

-- the same for trees
pub occ_full : {a b : ℕ} {k l : Forest} → OccursIn a k (cons b l nil) → size l ≤ size k → Reordered (cons a k nil) (cons b l nil)
occ_full (occ_here e m) h = eqv_cons e (emb_full m h) eqv_nil
occ_full (occ_kids m) h = absurd (omega (arith, occ_size m))
occ_full (occ_sib m) h = absurd (omega (arith, occ_size m))

emb_self : (f : Forest) → Embedding f f
emb_self nil = emb_nil
emb_self (cons a k s) = emb_cons (here refl refl) (emb_self k) (emb_self s)

pick_occ : {a : ℕ} {k l g h : Forest} → Pick a l g h → Embedding k l → OccursIn a k g
pick_occ (here e e') m = occ_here e (rw e' at m)
pick_occ (there p) m = occ_sib (pick_occ p m)

pub eqv_size : {f g : Forest} → Reordered f g → size f ≡ size g
eqv_size eqv_nil = refl
eqv_size (eqv_cons e p q) = omega (arith, eqv_size p, eqv_size q)
eqv_size eqv_swap = omega arith
eqv_size (eqv_trans p q) = eqv_size p ∙ eqv_size q

pub eqv_lab : {f g : Forest} → Reordered f g → Labelled f → Labelled g
eqv_lab eqv_nil l = l
eqv_lab (eqv_cons e p q) (lab_cons c d lk ls) = lab_cons (rw e at c) (rw e at d) (eqv_lab p lk) (eqv_lab q ls)
eqv_lab eqv_swap (lab_cons c d lk (lab_cons c' d' lk' ls)) = lab_cons c' d' lk' (lab_cons c d lk ls)
eqv_lab (eqv_trans p q) l = eqv_lab q (eqv_lab p l)

eqv_occ_self : {a : ℕ} {k g : Forest} → Reordered (cons a k nil) g → OccursIn a k g
eqv_occ_self {a} {k} {g} e = go (emb_eqv (emb_self (cons a k nil)) e)
  where
    go : Embedding (cons a k nil) g → OccursIn a k g
    go (emb_cons c m r) = pick_occ c m

pub eqv_same : (a b : ℕ) (k l : Forest) → Labelled (cons a k nil) → Labelled (cons b l nil) → Reordered (cons a k nil) (cons b l nil) → SameByMap (preorder 0 (cons a k nil) []) (preorder 0 (cons b l nil) [])
eqv_same a b k l la lb e =
    let z = occ_occs a k (cons b l nil) la lb (eqv_occ_self e) in
    record { size = size_len (cons a k nil) 0 ∙ eqv_size e ∙ sym (size_len (cons b l nil) 0); map = z.0; occurs = z.1 }

pub same_eqv : (a b : ℕ) (k l : Forest) → Labelled (cons a k nil) → Labelled (cons b l nil) → SameByMap (preorder 0 (cons a k nil) []) (preorder 0 (cons b l nil) []) → Reordered (cons a k nil) (cons b l nil)
same_eqv a b k l la lb s = occ_full (occs_occ a k (cons b l nil) s.map la lb s.occurs) (omega (arith, s.size, enc_size k 1 [], enc_size l 1 []))

-- the task's definition: no sequence of the same unordered tree is heavier
unfoldable pub HeaviestAnyDepth : List ℕ → Type 0
HeaviestAnyDepth s = (t : List ℕ) → IsTreeAnyDepth t → SameByMap s t → Lighter s t → ⊥

-- a forest that is equivalent to a tree is a tree
pub data One : Forest → Type 0 where
  one : (a : ℕ) (k : Forest) → One (cons a k nil)

pub eqv_one : {f g : Forest} → Reordered f g → One f → One g
eqv_one eqv_nil o = elim o [ ]
eqv_one (eqv_swap {a = a} {b = b} {k = k} {l = l} {s = s}) o = elim o [ ]
eqv_one (eqv_cons {b = b} {l = l} {t = nil} e p q) (one a k) = one b l
eqv_one (eqv_cons {t = cons c m u} e p q) (one a k) = absurd (omega (arith, eqv_size q))
eqv_one (eqv_trans p q) o = eqv_one q (eqv_one p o)

-- Lemma 3: canonical if and only if left-heavy
pub lh_canon : (a : ℕ) (k : Forest) → Labelled (cons a k nil) → ForestLeftHeavy (cons a k nil) → HeaviestAnyDepth (preorder 0 (cons a k nil) [])
unfolding HeaviestAnyDepth
lh_canon a k l h t v s x = go (tree_of t v)
  where
    go : TreeOf t → ⊥
    go z =
        let e = same_eqv a z.root k z.kids l z.labs (rw z.reads at s) in
        let p = lx_enc (cons a k nil) (cons z.root z.kids nil) 0 l z.labs (rw z.reads at x) in
        not_lt (lh_heaviest h (eqv_sym e)) p

pub canon_lh : (a : ℕ) (k : Forest) → Labelled (cons a k nil) → HeaviestAnyDepth (preorder 0 (cons a k nil) []) → ForestLeftHeavy (cons a k nil)
unfolding HeaviestAnyDepth
canon_lh a k l c = go (sort (cons a k nil)) refl (eqv_one (eqv_sort (cons a k nil)) (one a k)) (sort_le (cons a k nil))
  where
    go : (g : Forest) → sort (cons a k nil) ≡ g → One g → ForestLe (cons a k nil) (sort (cons a k nil)) → ForestLeftHeavy (cons a k nil)
    go g e o (le_eq q) = rw (← q) at (lh_sorted (cons a k nil))
    go g e (one b m) (le_lt q) =
        let ev : Reordered (cons a k nil) (cons b m nil) = rw e at (eqv_sort (cons a k nil)) in
        let lb = eqv_lab ev l in
        absurd (c (preorder 0 (cons b m nil) []) (tree_valid b m lb) (eqv_same a b k m l lb ev) (enc_lx 0 [] [] (rw e at q) l low_nil))

pre_lab : {f g : Forest} → Prefix f g → Labelled g → Labelled f
pre_lab pre_nil l = lab_nil
pre_lab (pre_kids e p) (lab_cons c d lk ls) = lab_cons (rw (← e) at c) (rw (← e) at d) (pre_lab p lk) lab_nil
pre_lab (pre_sib e e' p) (lab_cons c d lk ls) = lab_cons (rw (← e) at c) (rw (← e) at d) (rw (← e') at lk) (pre_lab p ls)

-- a nonempty prefix of a canonical sequence is canonical (and valid)
pub canon_prefix : (s : List ℕ) (n : ℕ) → IsTreeAnyDepth s → HeaviestAnyDepth s → IsTreeAnyDepth (take (suc n) s) × HeaviestAnyDepth (take (suc n) s)
canon_prefix s n v c = go (tree_of s v)
  where
    go : TreeOf s → IsTreeAnyDepth (take (suc n) s) × HeaviestAnyDepth (take (suc n) s)
    go x =
        let f = cons x.root x.kids nil in
        let hx = canon_lh x.root x.kids x.labs (rw x.reads at c) in
        let p : Prefix (cons x.root (take_forest x.kids n) nil) f = take_forest_prefix f (suc n) in
        let l = pre_lab p x.labs in
        let e : take (suc n) s ≡ preorder 0 (cons x.root (take_forest x.kids n) nil) [] =
        ap (take (suc n)) x.reads ∙ take_enc f 0 (suc n) [] ∙ ap (preorder 0 (take_forest f (suc n))) (take-nil (suc n - size f)) in
        rw e (tree_valid x.root (take_forest x.kids n) l, lh_canon x.root (take_forest x.kids n) l (pre_lh p hx))
