-- LAWS. Each node in turn at its largest place: this way is never stuck, and gives the heaviest placing.
use mathlib.Core.Path.{◌≡◌, refl, sym, ap, ◌∙◌}
use mathlib.Core.List.{List}
use Prim.Native.Nat.{ℕ, zero, suc, ◌+◌, ◌-◌, ◌≤◌, ◌<◌}
use native.Mathlib.Omega.{arith}
use native.Mathlib.Decide.{dec_lt, ℕ_discrete}
use lib.ListN.{length}
use Rattle.terms.specs.Tree.{IsParent, label_at, IsTree, IsTreeAnyDepth}
use Rattle.terms.specs.Order.{Lighter}
use Rattle.terms.specs.Matching.{placeAt}
use Rattle.terms.specs.Placing.{Placing, OccursAt, HeaviestPlacing}
use Rattle.terms.specs.Assignment.{Covering}
use Rattle.terms.specs.Fits.{Fits, Edge, Free, CanPlace}
use Rattle.terms.specs.Claims.{FitsExactly}
use Rattle.terms.proofs.PreorderLinks.{Embeds}
use Rattle.terms.proofs.FitsLaws.{fits_sat, occ_fits}
use Rattle.terms.proofs.EmbedsLaws.{has_parent, par_unique}
use Rattle.terms.proofs.TreeLaws.{tree_any_depth}
use Rattle.terms.proofs.MatchingLaws.{numbers, numbers_length, numbers_at, placing_occ, occ_placing}
use Rattle.terms.proofs.Decide.{choose}
use Rattle.terms.proofs.OccursDecided.{First, first_difference}

-- The root is placed at the largest node where it fits, and then each pattern node, in preorder, at the largest child where it can be placed.
pub record Greedy (p q : List ℕ) (φ : ℕ → ℕ) : Type 0 where
  pub root : Fits p q 0 (φ 0)
  pub root_inside : φ 0 < length q
  pub root_largest : (v : ℕ) → φ 0 < v → v < length q → ¬ Fits p q 0 v
  pub placed : (a i : ℕ) → IsParent p a i → CanPlace p q φ a i (φ i)
  pub largest : (a i : ℕ) → IsParent p a i → (v : ℕ) → φ i < v → ¬ CanPlace p q φ a i v

-- The first n pattern nodes are placed, and what is left of each one's children can be matched at the free children of its image.
pub record Good (p q : List ℕ) (φ : ℕ → ℕ) (n : ℕ) : Type 0 where
  pub inside : (x : ℕ) → x < n → φ x < length q
  pub labels : (x : ℕ) → x < n → label_at p x ≡ label_at q (φ x)
  pub child : (a x : ℕ) → IsParent p a x → x < n → IsParent q (φ a) (φ x)
  pub apart : (a x y : ℕ) → IsParent p a x → IsParent p a y → x < n → y < n → φ x ≡ φ y → x ≡ y
  pub rest : (a : ℕ) → a < n → Covering (λ x r. Free p q φ a n x r) (λ x. IsParent p a x × (n ≤ x)) (length q)

-- only where a and its children before i are placed matters
free_agree : {p q : List ℕ} {φ ψ : ℕ → ℕ} {a i x r : ℕ} → φ a ≡ ψ a → ((y : ℕ) → IsParent p a y → y < i → φ y ≡ ψ y) → Free p q φ a i x r → Free p q ψ a i x r
free_agree e f g = record { child = rw e at g.child; fits = g.fits; unused = λ y c b k. g.unused y c b (f y c b ∙ k) }

pub can_agree : {p q : List ℕ} {φ ψ : ℕ → ℕ} {a i v : ℕ} → φ a ≡ ψ a → ((y : ℕ) → IsParent p a y → y < i → φ y ≡ ψ y) → CanPlace p q φ a i v → CanPlace p q ψ a i v
can_agree e f c = record {
  free = free_agree e f c.free;
  rest = record { to = c.rest.to; inside = c.rest.inside; edge = λ x l. let z = c.rest.edge x l in (free_agree e f z.0, z.1); inj = c.rest.inj };
}

can_like : {p q : List ℕ} {φ ψ : ℕ → ℕ} {a i v : ℕ} → a < i → ((y : ℕ) → y < i → φ y ≡ ψ y) → CanPlace p q φ a i v → CanPlace p q ψ a i v
can_like {a = a} h e = can_agree (e a h) (λ y _ b. e y b)

good_like : {p q : List ℕ} {φ ψ : ℕ → ℕ} {n : ℕ} → ((y : ℕ) → y < n → φ y ≡ ψ y) → Good p q φ n → Good p q ψ n
good_like {p} {q} {φ} {ψ} {n} e g = record {
  inside = λ x h. rw (e x h) at (g.inside x h);
  labels = λ x h. rw (e x h) at (g.labels x h);
  child = λ a x c h. rw (e a (omega (arith, c.before)), e x h) at (g.child a x c h);
  apart = λ a x y c d h k q. g.apart a x y c d h k (e x h ∙ q ∙ sym (e y k));
  rest = λ a h. let s = g.rest a h in record { to = s.to; inside = s.inside; edge = λ x l. free_agree (e a h) (λ y _ b. e y b) (s.edge x l); inj = s.inj };
}

-- where the root fits, the first node is well placed
pub good_first : {p q : List ℕ} {φ : ℕ → ℕ} → Fits p q 0 (φ 0) → φ 0 < length q → Good p q φ 1
unfolding Edge
good_first {p} {q} {φ} f h = record {
  inside = λ x b. rw (zero_is x b) h;
  labels = λ x b. rw (zero_is x b) s.0;
  child = λ a x c b. absurd (omega (arith, c.before));
  apart = λ a x y c d b k e. absurd (omega (arith, c.before));
  rest = λ a b. rw (zero_is a b) rest;
}
  where
    s : (label_at p 0 ≡ label_at q (φ 0)) × Covering (Edge p q (φ 0)) (IsParent p 0) (length q)
    s = fits_sat p q 0 (φ 0) f

    zero_is : (x : ℕ) → x < 1 → x ≡ 0
    zero_is x b = omega arith

    rest : Covering (λ x r. Free p q φ 0 1 x r) (λ x. IsParent p 0 x × (1 ≤ x)) (length q)
    rest = record {
      to = s.1.to;
      inside = λ x l. s.1.inside x l.0;
      edge = λ x l. let z = s.1.edge x l.0 in record { child = z.0; fits = z.1; unused = λ y c b e. omega (arith, c.before) };
      inj = λ x y l m e. s.1.inj x y l.0 m.0 e;
    }

-- there is a place for the next node
good_next : {p q : List ℕ} {φ : ℕ → ℕ} {a i : ℕ} → Good p q φ i → IsParent p a i → (v : ℕ) × CanPlace p q φ a i v
good_next {p} {q} {φ} {a} {i} g c = (
  s.to i,
  record {
    free = s.edge i me;
    rest = record {
      to = s.to;
      inside = λ x l. s.inside x (up x l);
      edge = λ x l. (s.edge x (up x l), λ e. apart x l (s.inj x i (up x l) me e));
      inj = λ x y l m e. s.inj x y (up x l) (up y m) e;
    };
  },
)
  where
    s : Covering (λ x r. Free p q φ a i x r) (λ x. IsParent p a x × (i ≤ x)) (length q)
    s = g.rest a c.before

    me : IsParent p a i × (i ≤ i)
    me = (c, omega arith)

    up : (x : ℕ) → IsParent p a x × (i < x) → IsParent p a x × (i ≤ x)
    up x l = let b = l.1 in (l.0, omega arith)

    apart : (x : ℕ) → IsParent p a x × (i < x) → x ≡ i → ⊥
    apart x l e = let b = l.1 in omega arith

-- and wherever it can be placed, all goes on well
good_step : {p q : List ℕ} {φ : ℕ → ℕ} {a i : ℕ} → Good p q φ i → IsParent p a i → CanPlace p q φ a i (φ i) → Good p q φ (suc i)
unfolding Edge
good_step {p} {q} {φ} {a} {i} g c k = record { inside = ins; labels = labs; child = kid; apart = ap'; rest = λ b h. rest b h (dec_lt b i) (ℕ_discrete b a) }
  where
    s : (label_at p i ≡ label_at q (φ i)) × Covering (Edge p q (φ i)) (IsParent p i) (length q)
    s = fits_sat p q i (φ i) k.free.fits

    is_i : (x : ℕ) → x < suc i → ¬ (x < i) → i ≡ x
    is_i x h n = omega arith

    ins : (x : ℕ) → x < suc i → φ x < length q
    ins x h = go (dec_lt x i)
      where
        go : Dec (x < i) → φ x < length q
        go (yes b) = g.inside x b
        go (no b) = rw (is_i x h b) at k.free.child.inside

    labs : (x : ℕ) → x < suc i → label_at p x ≡ label_at q (φ x)
    labs x h = go (dec_lt x i)
      where
        go : Dec (x < i) → label_at p x ≡ label_at q (φ x)
        go (yes b) = g.labels x b
        go (no b) = rw (is_i x h b) at s.0

    kid : (b x : ℕ) → IsParent p b x → x < suc i → IsParent q (φ b) (φ x)
    kid b x d h = go (dec_lt x i)
      where
        go : Dec (x < i) → IsParent q (φ b) (φ x)
        go (yes z) = g.child b x d z
        go (no z) =
            let e = is_i x h z in
            let d' : IsParent p b i = rw (← e) at d in
            let f : a ≡ b = par_unique c d' in
            let w : IsParent q (φ a) (φ i) = k.free.child in
            rw (← e, ← f) w

    ap' : (b x y : ℕ) → IsParent p b x → IsParent p b y → x < suc i → y < suc i → φ x ≡ φ y → x ≡ y
    ap' b x y d d' h h' e = go (dec_lt x i) (dec_lt y i)
      where
        -- an earlier child of the same parent is not where i is
        clash : (z : ℕ) → IsParent p b i → IsParent p b z → z < i → φ z ≡ φ i → ⊥
        clash z u v l m = let f : b ≡ a = par_unique u c in k.free.unused z (rw f at v) l m

        go : Dec (x < i) → Dec (y < i) → x ≡ y
        go (yes m) (yes n) = g.apart b x y d d' m n e
        go (yes m) (no n) = let r = is_i y h' n in absurd (clash x (rw (← r) at d') d m (rw (← r) at e))
        go (no m) (yes n) = let r = is_i x h m in absurd (clash y (rw (← r) at d) d' n (sym (rw (← r) at e)))
        go (no m) (no n) = omega arith

    rest : (b : ℕ) → b < suc i → Dec (b < i) → Dec (b ≡ a) → Covering (λ x r. Free p q φ b (suc i) x r) (λ x. IsParent p b x × (suc i ≤ x)) (length q)
    rest b h (no z) _ = rw (← is_i b h z) (record {
      to = s.1.to;
      inside = λ x l. s.1.inside x l.0;
      edge = λ x l. let w = s.1.edge x l.0 in record { child = w.0; fits = w.1; unused = λ y d m e. omega (arith, d.before) };
      inj = λ x y l m e. s.1.inj x y l.0 m.0 e;
    })
    rest b h (yes z) (yes e) = rw e (record {
      to = k.rest.to;
      inside = k.rest.inside;
      edge = λ x l. let w = k.rest.edge x l in record { child = w.0.child; fits = w.0.fits; unused = λ y d m f. used x l y d m f (dec_lt y i) };
      inj = k.rest.inj;
    })
      where
        used : (x : ℕ) (l : IsParent p a x × (i < x)) (y : ℕ) → IsParent p a y → y < suc i → φ y ≡ k.rest.to x → Dec (y < i) → ⊥
        used x l y d m f (yes n) = (k.rest.edge x l).0.unused y d n f
        used x l y d m f (no n) = let r = is_i y m n in (k.rest.edge x l).1 (sym (rw (← r) at f))
    rest b h (yes z) (no e) = record {
      to = o.to;
      inside = λ x l. o.inside x (up x l);
      edge = λ x l. let w = o.edge x (up x l) in record { child = w.child; fits = w.fits; unused = λ y d m f. used x l y d m f (dec_lt y i) };
      inj = λ x y l m f. o.inj x y (up x l) (up y m) f;
    }
      where
        o : Covering (λ x r. Free p q φ b i x r) (λ x. IsParent p b x × (i ≤ x)) (length q)
        o = g.rest b z

        up : (x : ℕ) → IsParent p b x × (suc i ≤ x) → IsParent p b x × (i ≤ x)
        up x l = let m = l.1 in (l.0, omega arith)

        used : (x : ℕ) (l : IsParent p b x × (suc i ≤ x)) (y : ℕ) → IsParent p b y → y < suc i → φ y ≡ o.to x → Dec (y < i) → ⊥
        used x l y d m f (yes n) = (o.edge x (up x l)).unused y d n f
        used x l y d m f (no n) = let r = is_i y m n in e (par_unique (rw (← r) at d) c)

-- a node below the root goes below the root's place
under_root : (n : ℕ) {p q : List ℕ} {φ : ℕ → ℕ} → IsTreeAnyDepth p → Good p q φ (length p) → (x : ℕ) → x < n → suc x < length p → φ 0 < φ (suc x)
under_root zero v g x b h = absurd (omega arith)
under_root (suc n) {p} {q} {φ} v g x b h = go (λ a m k. under_root n v g a m k) z.0 refl
  where
    z : (a : ℕ) × IsParent p a (suc x)
    z = has_parent p v x h

    down : φ z.0 < φ (suc x)
    down = (g.child z.0 (suc x) z.1 h).before

    go : ((a : ℕ) → a < n → suc a < length p → φ 0 < φ (suc a)) → (a : ℕ) → z.0 ≡ a → φ 0 < φ (suc x)
    go f zero e = rw e at down
    go f (suc a) e =
        let l : z.0 < suc x = z.1.before in
        let d : φ (suc a) < φ (suc x) = rw e at down in
        omega (arith, f a (omega arith) (omega arith))

one_to_one : (n : ℕ) {p q : List ℕ} {φ : ℕ → ℕ} → IsTreeAnyDepth p → Good p q φ (length p) → (x y : ℕ) → x < n → x < length p → y < length p → φ x ≡ φ y → x ≡ y
one_to_one zero v g x y b h k e = absurd (omega arith)
one_to_one (suc n) v g zero zero b h k e = refl
one_to_one (suc n) v g zero (suc y) b h k e = absurd (omega (arith, under_root (suc y) v g y (omega arith) k))
one_to_one (suc n) v g (suc x) zero b h k e = absurd (omega (arith, under_root (suc x) v g x (omega arith) h))
one_to_one (suc n) {p} {q} {φ} v g (suc x) (suc y) b h k e =
    let z = has_parent p v x h in
    let w = has_parent p v y k in
    let zb : z.0 < suc x = z.1.before in
    let wb : w.0 < suc y = w.1.before in
    let c : IsParent q (φ z.0) (φ (suc x)) = g.child z.0 (suc x) z.1 h in
    let d : IsParent q (φ w.0) (φ (suc y)) = g.child w.0 (suc y) w.1 k in
    let f : φ z.0 ≡ φ w.0 = par_unique (rw e at c) d in
    let m : z.0 ≡ w.0 = one_to_one n v g z.0 w.0 (omega arith) (omega arith) (omega arith) f in
    g.apart w.0 (suc x) (suc y) (rw m at z.1) w.1 h k e

-- all nodes placed well: a placing
pub good_full : {p q : List ℕ} {φ : ℕ → ℕ} → IsTree p → Good p q φ (length p) → Embeds p q φ
good_full {p} t g = record {
  bound = g.inside;
  labels = g.labels;
  inj = λ x y h k e. one_to_one (length p) (tree_any_depth t) g x y h h k e;
  parents = λ i j h k c. g.child i j c k;
}

-- in a placing each node stands where it can be placed
pub occ_can : {p q : List ℕ} {ψ : ℕ → ℕ} → Embeds p q ψ → (a i : ℕ) → IsParent p a i → CanPlace p q ψ a i (ψ i)
occ_can {p} {q} {ψ} o a i c = record {
  free = free i c (omega arith);
  rest = record {
    to = ψ;
    inside = λ x l. o.bound x l.0.inside;
    edge = λ x l. let b = l.1 in (free x l.0 (omega arith), λ e. apart x l (o.inj x i l.0.inside c.inside e));
    inj = λ x y l m e. o.inj x y l.0.inside m.0.inside e;
  };
}
  where
    free : (x : ℕ) → IsParent p a x → i ≤ x → Free p q ψ a i x (ψ x)
    free x d h = record {
      child = o.parents a x (omega (arith, d.before, d.inside)) d.inside d;
      fits = occ_fits p q ψ o x d.inside;
      unused = λ y u b e. let m = o.inj y x u.inside d.inside e in omega arith;
    }

    apart : (x : ℕ) → IsParent p a x × (i < x) → x ≡ i → ⊥
    apart x l e = let b = l.1 in omega arith

-- this way is good all along
greedy_good : {p q : List ℕ} {φ : ℕ → ℕ} → IsTree p → Greedy p q φ → (n : ℕ) → n < length p → Good p q φ (suc n)
greedy_good t g zero h = good_first g.root g.root_inside
greedy_good {p} t g (suc n) h = let z = has_parent p (tree_any_depth t) n h in good_step (greedy_good t g n (omega arith)) z.1 (g.placed z.0 (suc n) z.1)

pub greedy_occ : {p q : List ℕ} {φ : ℕ → ℕ} → IsTree p → Greedy p q φ → Embeds p q φ
greedy_occ {p} {q} {φ} t g = good_full t (go (length p) refl t.has_root)
  where
    go : (n : ℕ) → length p ≡ n → 1 ≤ n → Good p q φ (length p)
    go zero e h = absurd (omega arith)
    go (suc n) e h = rw e (greedy_good t g n (omega arith))

-- and gives the heaviest placing
pub greedy_heaviest : {p q : List ℕ} {φ : ℕ → ℕ} → IsTree p → Greedy p q φ → HeaviestPlacing p q (numbers (length p) φ)
greedy_heaviest {p} {q} {φ} t g = record { placing = occ_placing t (greedy_occ t g); none_heavier = none }
  where
    M : List ℕ
    M = numbers (length p) φ

    none : (other : List ℕ) → Placing p q other → ¬ Lighter M other
    none n o h = at z.place refl
      where
        z : First M n
        z = first_difference h (numbers_length (length p) φ ∙ sym o.each_placed)

        ψ : ℕ → ℕ
        ψ = placeAt n

        oc : Embeds p q ψ
        oc = placing_occ o

        in_p : z.place < length p
        in_p = omega (arith, z.inside, numbers_length (length p) φ)

        like : (y : ℕ) → y < z.place → ψ y ≡ φ y
        like y b = omega (arith, z.before y b, numbers_at (length p) φ y (omega (arith, in_p)))

        more : φ z.place < ψ z.place
        more = omega (arith, z.lower, numbers_at (length p) φ z.place in_p)

        at : (i : ℕ) → z.place ≡ i → ⊥
        at zero e =
            let m : φ 0 < ψ 0 = rw e at more in
            g.root_largest (ψ 0) m (oc.bound 0 t.has_root) (occ_fits p q ψ oc 0 t.has_root)
        at (suc i) e =
            let w = has_parent p (tree_any_depth t) i (omega (arith, in_p)) in
            let m : φ (suc i) < ψ (suc i) = rw e at more in
            g.largest w.0 (suc i) w.1 (ψ (suc i)) m (can_like w.1.before (λ y b. like y (omega arith)) (occ_can oc w.0 (suc i) w.1))

-- one place changed
update : (ℕ → ℕ) → ℕ → ℕ → ℕ → ℕ
update φ i v x = choose (ℕ_discrete x i) v (φ x)

update_same : (φ : ℕ → ℕ) (i v : ℕ) → update φ i v i ≡ v
unfolding update
update_same φ i v = go (ℕ_discrete i i)
  where
    go : (d : Dec (i ≡ i)) → choose d v (φ i) ≡ v
    go (yes _) = refl
    go (no h) = absurd (h refl)

update_other : (φ : ℕ → ℕ) (i v y : ℕ) → y < i → φ y ≡ update φ i v y
unfolding update
update_other φ i v y h = go (ℕ_discrete y i)
  where
    go : (d : Dec (y ≡ i)) → φ y ≡ choose d v (φ y)
    go (yes e) = absurd (omega arith)
    go (no _) = refl

-- what is well begun can be ended: a whole placing
pub record Whole (p q : List ℕ) (φ : ℕ → ℕ) (n : ℕ) : Type 0 where
  pub ψ : ℕ → ℕ
  pub like : (y : ℕ) → y < n → φ y ≡ ψ y
  pub good : Good p q ψ (length p)

placed_at : {p q : List ℕ} {φ : ℕ → ℕ} {a i v : ℕ} → Good p q φ i → IsParent p a i → CanPlace p q φ a i v → Good p q (update φ i v) (suc i)
placed_at {p} {q} {φ} {a} {i} {v} g c k =
    let l = update_other φ i v in
    let k' : CanPlace p q (update φ i v) a i v = can_like c.before l k in
    let k'' : CanPlace p q (update φ i v) a i (update φ i v i) = rw (update_same φ i v) k' in
    good_step (good_like l g) c k''

pub extend : {p q : List ℕ} (k n : ℕ) (φ : ℕ → ℕ) → IsTree p → suc n + k ≡ length p → Good p q φ (suc n) → Whole p q φ (suc n)
extend {p} {q} zero n φ t e g = let h : suc n ≡ length p = omega arith in record { ψ = φ; like = λ y b. refl; good = rw h at g }
extend {p} {q} (suc k) n φ t e g = join (extend k (suc n) (update φ (suc n) v) t (omega arith) (placed_at g z.1 w.1))
  where
    z : (a : ℕ) × IsParent p a (suc n)
    z = has_parent p (tree_any_depth t) n (omega arith)

    w : (v : ℕ) × CanPlace p q φ z.0 (suc n) v
    w = good_next g z.1

    v : ℕ
    v = w.0

    join : Whole p q (update φ (suc n) v) (suc (suc n)) → Whole p q φ (suc n)
    join x = record { ψ = x.ψ; like = λ y b. update_other φ (suc n) v y b ∙ x.like y (omega arith); good = x.good }

-- the root fits at a node exactly if the pattern occurs there
pub fits_occurs_at : (p q : List ℕ) (v : ℕ) → IsTree p → v < length q → Fits p q 0 v → OccursAt p q v
fits_occurs_at p q v t h f =
    let w : Whole p q (λ _. v) 1 = extend (length p - 1) 0 (λ _. v) t (omega (arith, t.has_root)) (good_first f h) in
    record { tuple = numbers (length p) w.ψ; placing = occ_placing t (good_full t w.good); root = numbers_at (length p) w.ψ 0 t.has_root ∙ ap suc (sym (w.like 0 (omega arith))) }

pub occurs_at_fits : (p q : List ℕ) (v : ℕ) → IsTree p → OccursAt p q v → Fits p q 0 v
occurs_at_fits p q v t s =
    let e : placeAt s.tuple 0 ≡ v = omega (arith, s.root) in
    rw e at (occ_fits p q (placeAt s.tuple) (placing_occ s.placing) 0 t.has_root)

pub fits_exactly : FitsExactly
fits_exactly pattern tree v t h = (fits_occurs_at pattern tree v t h, occurs_at_fits pattern tree v t)
