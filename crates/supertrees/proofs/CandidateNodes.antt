-- LAWS. The nodes of a candidate's tree: the old ones and the new leaf; every node one deeper.
use mathlib.Core.Path.{◌≡◌, refl, sym, ap, ◌∙◌}
use mathlib.Core.List.{List, [], ◌∷◌}
use Prim.Native.Nat.{ℕ, zero, suc, ◌+◌, ◌-◌, ◌/◌, ◌%◌, ◌≤◌, ◌<◌}
use native.Mathlib.Omega.{arith}
use native.Mathlib.Decide.{dec_lt, dec_le, ℕ_discrete}
use lib.ListN.{length, get_or, take, drop, length-append, length-drop, get_or-append}
use lib.Seq.{length-take-le, get_or-take, get_or-drop, get_or_at, get_or-append-add}
use Rattle.terms.specs.Tree.{pair, depthAt, label_at, IsTreeAnyDepth, IsParent}
use Rattle.terms.proofs.Decide.{choose}
use Rattle.terms.proofs.PreorderLinks.{Embeds}
use Rattle.terms.proofs.EmbedsLaws.{par_unique, has_parent, parents_back}
use Rattle.supertrees.specs.Candidate.{with_leaf, deepened}

-- a leaf under a node: the nodes up to it, the leaf, the nodes behind it
module _ (p : List ℕ) (i l : ℕ) (h : i < length p) where
  first_long : length (take (suc i) p) ≡ suc i
  first_long = length-take-le (suc i) p h

  pub leaf_length : length (with_leaf p i l) ≡ suc (length p)
  unfolding with_leaf
  leaf_length = omega (arith, length-append (take (suc i) p) (pair (suc (depthAt p i)) l ∷ drop (suc i) p), first_long, length-drop (suc i) p)

  pub leaf_new : get_or (with_leaf p i l) (suc i) 0 ≡ pair (suc (depthAt p i)) l
  unfolding with_leaf
  leaf_new = get_or_at (take (suc i) p) (pair (suc (depthAt p i)) l) (drop (suc i) p) 0 (suc i) first_long

  leaf_before : (j : ℕ) → j ≤ i → get_or (with_leaf p i l) j 0 ≡ get_or p j 0
  unfolding with_leaf
  leaf_before j b = get_or-append (take (suc i) p) (pair (suc (depthAt p i)) l ∷ drop (suc i) p) 0 j (omega (arith, first_long)) ∙ get_or-take (suc i) p j 0 (omega arith)

  leaf_behind : (k : ℕ) → i < k → get_or (with_leaf p i l) (suc k) 0 ≡ get_or p k 0
  unfolding with_leaf
  leaf_behind k b =
      let e : suc k ≡ length (take (suc i) p) + suc (k - suc i) = omega (arith, first_long) in
      let f : suc i + (k - suc i) ≡ k = omega arith in
      rw e (get_or-append-add (take (suc i) p) (pair (suc (depthAt p i)) l ∷ drop (suc i) p) (suc (k - suc i)) 0 ∙ get_or-drop (suc i) p (k - suc i) 0 ∙ ap (λ (m : ℕ). get_or p m 0) f)

  -- where an old node stands
  pub past : ℕ → ℕ
  past k = choose (dec_le k i) k (suc k)

  pub past_low : (k : ℕ) → k ≤ i → past k ≡ k
  unfolding past
  past_low k b = go (dec_le k i)
    where
      go : (d : Dec (k ≤ i)) → choose d k (suc k) ≡ k
      go (yes _) = refl
      go (no n) = absurd (n b)

  past_high : (k : ℕ) → i < k → past k ≡ suc k
  unfolding past
  past_high k b = go (dec_le k i)
    where
      go : (d : Dec (k ≤ i)) → choose d k (suc k) ≡ suc k
      go (yes n) = absurd (omega arith)
      go (no _) = refl

  -- none at the leaf
  pub past_leaf : (k : ℕ) → ¬ (past k ≡ suc i)
  past_leaf k e = go (dec_le k i)
    where
      go : Dec (k ≤ i) → ⊥
      go (yes b) = omega (arith, past_low k b)
      go (no b) = omega (arith, past_high k (omega arith))

  old : (k : ℕ) → get_or (with_leaf p i l) (past k) 0 ≡ get_or p k 0
  old k = go (dec_le k i)
    where
      go : Dec (k ≤ i) → get_or (with_leaf p i l) (past k) 0 ≡ get_or p k 0
      go (yes b) = rw (past_low k b) (leaf_before k b)
      go (no b) = let c : i < k = omega arith in rw (past_high k c) (leaf_behind k c)

  deep : (k : ℕ) → depthAt (with_leaf p i l) (past k) ≡ depthAt p k
  deep k = ap (λ (x : ℕ). x / 1000) (old k)

  pub leaf_child : l ≤ 999 → IsParent (with_leaf p i l) i (suc i)
  leaf_child b = record { before = omega arith; inside = omega (arith, leaf_length); one_deeper = omega (arith, leaf_new, leaf_before i (omega arith)); between = λ k a c. absurd (omega arith) }

  rising : {a b : ℕ} → a < b → past a < past b
  rising {a} {b} c = go (dec_le a i) (dec_le b i)
    where
      go : Dec (a ≤ i) → Dec (b ≤ i) → past a < past b
      go (yes x) (yes y) = omega (arith, past_low a x, past_low b y)
      go (yes x) (no y) = omega (arith, past_low a x, past_high b (omega arith))
      go (no x) (yes y) = absurd (omega arith)
      go (no x) (no y) = omega (arith, past_high a (omega arith), past_high b (omega arith))

  inside : (k : ℕ) → k < length p → past k < length (with_leaf p i l)
  inside k c = go (dec_le k i)
    where
      go : Dec (k ≤ i) → past k < length (with_leaf p i l)
      go (yes x) = omega (arith, past_low k x, leaf_length)
      go (no x) = omega (arith, past_high k (omega arith), leaf_length)

  old_inside : (k : ℕ) → past k < length (with_leaf p i l) → k < length p
  old_inside k c = go (dec_le k i)
    where
      go : Dec (k ≤ i) → k < length p
      go (yes x) = omega arith
      go (no x) = omega (arith, past_high k (omega arith), leaf_length)

  -- every node is an old one, or the leaf
  data OldOrLeaf (m : ℕ) : Type 0 where
    an_old : (k : ℕ) → past k ≡ m → OldOrLeaf m
    the_leaf : m ≡ suc i → OldOrLeaf m

  old_or_leaf : (m : ℕ) → OldOrLeaf m
  old_or_leaf m = go (dec_le m i) (ℕ_discrete m (suc i))
    where
      go : Dec (m ≤ i) → Dec (m ≡ suc i) → OldOrLeaf m
      go (yes a) _ = an_old m (past_low m a)
      go (no a) (yes b) = the_leaf b
      go (no a) (no b) = an_old (m - 1) (past_high (m - 1) (omega arith) ∙ omega arith)

  falling : {a b : ℕ} → past a < past b → a < b
  falling {a} {b} c = go (dec_lt a b) (dec_lt b a)
    where
      go : Dec (a < b) → Dec (b < a) → a < b
      go (yes x) _ = x
      go (no x) (yes y) = absurd (omega (arith, rising y))
      go (no x) (no y) = let e : a ≡ b = omega arith in absurd (omega (arith, ap past e))

  parents : l ≤ 999 → {a b : ℕ} → IsParent p a b → IsParent (with_leaf p i l) (past a) (past b)
  parents top {a} {b} r = record {
    before = rising r.before;
    inside = inside b r.inside;
    one_deeper = deep b ∙ r.one_deeper ∙ ap suc (sym (deep a));
    between = λ m x y. between m x y (old_or_leaf m);
  }
    where
      -- a node with a child behind the new leaf is the leaf's parent, or less deep than it
      low : a ≤ i → i < b → depthAt p a ≤ depthAt p i
      low x y = go (ℕ_discrete a i)
        where
          go : Dec (a ≡ i) → depthAt p a ≤ depthAt p i
          go (yes e) = rw e (omega arith)
          go (no e) = omega (arith, r.between i (omega arith) y)

      between : (m : ℕ) → past a < m → m < past b → OldOrLeaf m → depthAt (with_leaf p i l) (past a) < depthAt (with_leaf p i l) m
      between m x y (an_old k e) = rw (sym e) (omega (arith, deep a, deep k, r.between k (falling (rw e x)) (falling (rw e y))))
      between m x y (the_leaf e) = rw e (omega (arith, deep a, leaf_new, low (here (dec_le a i)) (there (dec_le b i))))
        where
          here : Dec (a ≤ i) → a ≤ i
          here (yes z) = z
          here (no z) = absurd (omega (arith, past_high a (omega arith)))

          there : Dec (b ≤ i) → i < b
          there (yes z) = absurd (omega (arith, past_low b z))
          there (no z) = omega arith

  apart : {a b : ℕ} → past a ≡ past b → a ≡ b
  apart {a} {b} e = go (dec_lt a b) (dec_lt b a)
    where
      go : Dec (a < b) → Dec (b < a) → a ≡ b
      go (yes x) _ = absurd (omega (arith, rising x))
      go (no x) (yes y) = absurd (omega (arith, rising y))
      go (no x) (no y) = omega arith

  pub past_embeds : l ≤ 999 → Embeds p (with_leaf p i l) past
  past_embeds top = record { bound = inside; labels = λ k b. ap (λ (x : ℕ). x % 1000) (sym (old k)); inj = λ a b x y e. apart e; parents = λ a b x y r. parents top r }

  pub leaf_depths : {most : ℕ} → ((k : ℕ) → k < length p → depthAt p k ≤ most) → suc (depthAt p i) ≤ most → l ≤ 999 → (m : ℕ) → m < length (with_leaf p i l) → depthAt (with_leaf p i l) m ≤ most
  leaf_depths {most} f g top m b = go (old_or_leaf m)
    where
      go : OldOrLeaf m → depthAt (with_leaf p i l) m ≤ most
      go (an_old k e) = rw (sym e) (omega (arith, deep k, f k (old_inside k (rw e b))))
      go (the_leaf e) = rw e (omega (arith, leaf_new))

  -- A placing goes on to the leaf, if a child of its parent's place has its label and no other node is there.
  module _ {q : List ℕ} {φ : ℕ → ℕ} {j : ℕ} (t : IsTreeAnyDepth p) (top : l ≤ 999) (o : Embeds p q φ) (r : IsParent q (φ i) j) (e : label_at q j ≡ l) (unused : (k : ℕ) → k < length p → ¬ (φ k ≡ j)) where
    abbrev at : {m : ℕ} → OldOrLeaf m → ℕ
    at (an_old k _) = φ k
    at (the_leaf _) = j

    pub leaf_map : ℕ → ℕ
    leaf_map m = at (old_or_leaf m)

    pub leaf_map_parent : leaf_map i ≡ φ i
    unfolding leaf_map
    leaf_map_parent = go (old_or_leaf i)
      where
        go : (z : OldOrLeaf i) → at z ≡ φ i
        go (an_old k s) = ap φ (apart (s ∙ sym (past_low i (omega arith))))
        go (the_leaf s) = absurd (omega arith)

    bound : {m : ℕ} → m < length (with_leaf p i l) → (z : OldOrLeaf m) → at z < length q
    bound b (an_old k s) = o.bound k (old_inside k (rw s b))
    bound b (the_leaf s) = r.inside

    labels : {m : ℕ} → m < length (with_leaf p i l) → (z : OldOrLeaf m) → label_at (with_leaf p i l) m ≡ label_at q (at z)
    labels b (an_old k s) = ap (label_at (with_leaf p i l)) (sym s) ∙ ap (λ (x : ℕ). x % 1000) (old k) ∙ o.labels k (old_inside k (rw s b))
    labels b (the_leaf s) = ap (label_at (with_leaf p i l)) s ∙ omega (arith, leaf_new) ∙ sym e

    different : {a b : ℕ} → a < length (with_leaf p i l) → b < length (with_leaf p i l) → (y : OldOrLeaf a) (z : OldOrLeaf b) → at y ≡ at z → a ≡ b
    different x y (an_old k s) (an_old k' s') h = sym s ∙ ap past (o.inj k k' (old_inside k (rw s x)) (old_inside k' (rw s' y)) h) ∙ s'
    different x y (an_old k s) (the_leaf s') h = absurd (unused k (old_inside k (rw s x)) h)
    different x y (the_leaf s) (an_old k' s') h = absurd (unused k' (old_inside k' (rw s' y)) (sym h))
    different x y (the_leaf s) (the_leaf s') h = s ∙ sym s'

    -- the new leaf has no child
    childless : (k : ℕ) → k < length p → ¬ IsParent (with_leaf p i l) (suc i) (past k)
    childless zero b c = omega (arith, c.before, past_low 0 (omega arith))
    childless (suc k) b c = let z = has_parent p t k b in past_leaf z.0 (par_unique (parents top z.1) c)

    parents_to : {a b : ℕ} → a < length (with_leaf p i l) → b < length (with_leaf p i l) → (y : OldOrLeaf a) (z : OldOrLeaf b) → IsParent (with_leaf p i l) a b → IsParent q (at y) (at z)
    parents_to x y (an_old k s) (an_old k' s') c =
        let h = old_inside k (rw s x) in
        let h' = old_inside k' (rw s' y) in
        o.parents k k' h h' (parents_back p (with_leaf p i l) past t (past_embeds top) k k' h h' (rw (s, s') c))
    parents_to x y (an_old k s) (the_leaf s') c =
        let z : k ≡ i = apart (s ∙ par_unique (rw s' at c) (leaf_child top) ∙ sym (past_low i (omega arith))) in
        rw z r
    parents_to x y (the_leaf s) (an_old k' s') c = absurd (childless k' (old_inside k' (rw s' y)) (rw s' (rw s at c)))
    parents_to x y (the_leaf s) (the_leaf s') c = absurd (omega (arith, c.before))

    pub leaf_embeds : Embeds (with_leaf p i l) q leaf_map
    unfolding leaf_map
    leaf_embeds = record {
      bound = λ m b. bound b (old_or_leaf m);
      labels = λ m b. labels b (old_or_leaf m);
      inj = λ a b x y h. different x y (old_or_leaf a) (old_or_leaf b) h;
      parents = λ a b x y c. parents_to x y (old_or_leaf a) (old_or_leaf b) c;
    }

-- every node one deeper
pub deepened_length : (p : List ℕ) → length (deepened p) ≡ length p
unfolding deepened
deepened_length [] = refl
deepened_length (x ∷ p) = ap suc (deepened_length p)

pub deepened_at : (p : List ℕ) (j : ℕ) → j < length p → get_or (deepened p) j 0 ≡ 1000 + get_or p j 0
unfolding deepened
deepened_at [] j h = absurd (omega arith)
deepened_at (x ∷ p) zero h = refl
deepened_at (x ∷ p) (suc j) h = deepened_at p j (omega arith)
