-- LAWS. A pattern and one pair more: its parents, its placings.
use mathlib.Core.Path.{◌≡◌, refl, sym, ap, ◌∙◌, subst}
use mathlib.Core.Logic.{◌≢◌}
use mathlib.Core.List.{List, [], ◌∷◌, ◌++◌}
use Prim.Native.Nat.{ℕ, zero, suc, ◌/◌, ◌%◌, ◌≤◌, ◌<◌}
use native.Mathlib.Omega.{arith}
use native.Mathlib.Decide.{dec_lt, ℕ_discrete}
use lib.ListN.{length, get_or, length-append, get_or-append}
use lib.Seq.{get_or-append_seam, take-append_seam}
use Rattle.terms.specs.Tree.{depthAt, label_at, IsPair, IsTree, IsParent}
use Rattle.terms.proofs.Decide.{choose}
use Rattle.terms.proofs.PreorderLinks.{Embeds}
use Rattle.terms.proofs.EmbedsLaws.{par_unique, has_parent, occ_prefix, parents_back}
use Rattle.terms.proofs.TreeLaws.{tree_any_depth}
use Rattle.rightmost.specs.Ends.{last_of, OnBranch, NewChild, IsChild}
use Rattle.rightmost.proofs.BranchLaws.{branch_deeper, branch_of_deeper}

abbrev pub longer : List ℕ → ℕ → List ℕ
longer p x = p ++ x ∷ []

pub longer_length : (p : List ℕ) (x : ℕ) → length (longer p x) ≡ suc (length p)
longer_length p x = omega (arith, length-append p (x ∷ []))

pub longer_at : (p : List ℕ) (x i : ℕ) → i < length p → get_or (longer p x) i 0 ≡ get_or p i 0
longer_at p x i h = get_or-append p (x ∷ []) 0 i h

pub longer_last : (p : List ℕ) (x : ℕ) → get_or (longer p x) (length p) 0 ≡ x
longer_last p x = get_or-append_seam p x [] 0

pub longer_end : (p : List ℕ) (x : ℕ) → last_of (longer p x) ≡ length p
longer_end p x = omega (arith, longer_length p x)

pub depth_at : (p : List ℕ) (x i : ℕ) → i < length p → depthAt (longer p x) i ≡ depthAt p i
depth_at p x i h = ap (λ (y : ℕ). y / 1000) (longer_at p x i h)

pub depth_last : (p : List ℕ) (x : ℕ) → depthAt (longer p x) (length p) ≡ x / 1000
depth_last p x = ap (λ (y : ℕ). y / 1000) (longer_last p x)

pub label_at_node : (p : List ℕ) (x i : ℕ) → i < length p → label_at (longer p x) i ≡ label_at p i
label_at_node p x i h = ap (λ (y : ℕ). y % 1000) (longer_at p x i h)

pub label_last : (p : List ℕ) (x : ℕ) → label_at (longer p x) (length p) ≡ x % 1000
label_last p x = ap (λ (y : ℕ). y % 1000) (longer_last p x)

-- the parents of the nodes before the new one
pub parent_to : (p : List ℕ) (x : ℕ) {i j : ℕ} → IsParent p i j → IsParent (longer p x) i j
parent_to p x {i} {j} r = record {
  before = r.before;
  inside = omega (arith, r.inside, longer_length p x);
  one_deeper = omega (arith, r.one_deeper, depth_at p x j r.inside, depth_at p x i (omega (arith, r.before, r.inside)));
  between = λ k a b. omega (arith, r.between k a b, depth_at p x k (omega (arith, r.inside)), depth_at p x i (omega (arith, r.inside)));
}

pub parent_from : (p : List ℕ) (x : ℕ) {i j : ℕ} → j < length p → IsParent (longer p x) i j → IsParent p i j
parent_from p x {i} {j} h r = record {
  before = r.before;
  inside = h;
  one_deeper = omega (arith, r.one_deeper, depth_at p x j h, depth_at p x i (omega (arith, r.before)));
  between = λ k a b. omega (arith, r.between k a b, depth_at p x k (omega arith), depth_at p x i (omega arith));
}

-- the new node's parent
pub parent_new : {p : List ℕ} {x b : ℕ} → NewChild p x b → IsParent (longer p x) b (length p)
parent_new {p} {x} {b} e = record {
  before = e.on_branch.inside;
  inside = omega (arith, longer_length p x);
  one_deeper = omega (arith, depth_last p x, e.one_deeper, depth_at p x b e.on_branch.inside);
  between = λ k a l. omega (arith, branch_deeper e.is_tree e.on_branch k a l, depth_at p x k l, depth_at p x b e.on_branch.inside);
}

pub longer_tree : {p : List ℕ} {x b : ℕ} → NewChild p x b → IsTree (longer p x)
longer_tree {p} {x} {b} e = record {
  has_root = omega (arith, longer_length p x);
  pairs = λ i h. pr i h (dec_lt i (length p));
  root_depth = omega (arith, depth_at p x 0 t.has_root, t.root_depth);
  later_from_1 = λ i h. from1 i h (dec_lt (suc i) (length p));
  later_to_next = λ i h. next i h (dec_lt (suc i) (length p));
}
  where
    t : IsTree p
    t = e.is_tree

    pr : (i : ℕ) → i < length (longer p x) → Dec (i < length p) → IsPair (get_or (longer p x) i 0)
    pr i h (yes l) = rw (longer_at p x i l) (t.pairs i l)
    pr i h (no l) = let q : i ≡ length p = omega (arith, longer_length p x) in rw (q, longer_last p x) e.is_pair

    from1 : (i : ℕ) → suc i < length (longer p x) → Dec (suc i < length p) → 1 ≤ depthAt (longer p x) (suc i)
    from1 i h (yes l) = omega (arith, depth_at p x (suc i) l, t.later_from_1 i l)
    from1 i h (no l) = let q : suc i ≡ length p = omega (arith, longer_length p x) in omega (arith, ap (depthAt (longer p x)) q, depth_last p x, e.one_deeper)

    next : (i : ℕ) → suc i < length (longer p x) → Dec (suc i < length p) → depthAt (longer p x) (suc i) ≤ suc (depthAt (longer p x) i)
    next i h (yes l) = omega (arith, depth_at p x (suc i) l, depth_at p x i (omega arith), t.later_to_next i l)
    next i h (no l) =
        let q : suc i ≡ length p = omega (arith, longer_length p x) in
        let r : last_of p ≡ i = omega arith in
        omega (arith, ap (depthAt (longer p x)) q, depth_last p x, e.one_deeper, e.on_branch.no_deeper, ap (depthAt p) r, depth_at p x i (omega arith))

-- every longer tree is so made, at one node of the branch
pub new_child_of : (p : List ℕ) (x : ℕ) → IsTree p → IsTree (longer p x) → (b : ℕ) × NewChild p x b
new_child_of p x t t' = go (length p) refl t.has_root
  where
    go : (n : ℕ) → length p ≡ n → 1 ≤ n → (b : ℕ) × NewChild p x b
    go zero e h = absurd (omega arith)
    go (suc n) e h =
        let z = has_parent (longer p x) (tree_any_depth t') n (omega (arith, longer_length p x)) in
        let r : IsParent (longer p x) z.0 (length p) = subst (λ (i : ℕ). IsParent (longer p x) z.0 i) (sym e) z.1 in
        let below : z.0 < length p = r.before in (
          z.0,
          record {
            is_tree = t;
            is_pair = rw (longer_last p x) at (t'.pairs (length p) (omega (arith, longer_length p x)));
            on_branch = branch_of_deeper p z.0 below (λ k a b. omega (arith, r.between k a b, depth_at p x k b, depth_at p x z.0 below));
            one_deeper = omega (arith, r.one_deeper, depth_last p x, depth_at p x z.0 below);
          },
        )

-- by the branch's depths: e is the depth of x less 1
pub new_child_at : (p : List ℕ) (x e b : ℕ) → IsTree p → IsPair x → OnBranch p e b → x / 1000 ≡ suc e → NewChild p x b
new_child_at p x e b t i o d = record { is_tree = t; is_pair = i; on_branch = rw (sym o.depth) at o; one_deeper = omega (arith, o.depth) }

-- PLACINGS

-- a placing of the longer pattern places the pattern
pub shorter_embeds : (p : List ℕ) (x : ℕ) {q : List ℕ} {φ : ℕ → ℕ} → Embeds (longer p x) q φ → Embeds p q φ
shorter_embeds p x {q} {φ} o = rw (take-append_seam p (x ∷ [])) at (occ_prefix (longer p x) q φ (length p) (omega (arith, longer_length p x)) o)

-- one place more
pub put : (ℕ → ℕ) → ℕ → ℕ → ℕ → ℕ
put φ n j i = choose (ℕ_discrete i n) j (φ i)

pub put_same : (φ : ℕ → ℕ) (n j i : ℕ) → i ≡ n → put φ n j i ≡ j
unfolding put
put_same φ n j i h = go (ℕ_discrete i n)
  where
    go : (d : Dec (i ≡ n)) → choose d j (φ i) ≡ j
    go (yes _) = refl
    go (no k) = absurd (k h)

pub put_other : (φ : ℕ → ℕ) (n j i : ℕ) → ¬ (i ≡ n) → put φ n j i ≡ φ i
unfolding put
put_other φ n j i h = go (ℕ_discrete i n)
  where
    go : (d : Dec (i ≡ n)) → choose d j (φ i) ≡ φ i
    go (yes e) = absurd (h e)
    go (no _) = refl

-- the new node goes to a child, with its label, of its parent's place, where no other is
pub longer_embeds : {p q : List ℕ} {x b : ℕ} {φ : ℕ → ℕ} {j : ℕ} → NewChild p x b → Embeds p q φ → IsChild q (φ b) (x % 1000) j → ((i : ℕ) → i < length p → φ i ≢ j) → Embeds (longer p x) q (put φ (length p) j)
longer_embeds {p} {q} {x} {b} {φ} {j} e o c u = record { bound = bnd; labels = labs; inj = inj'; parents = pars }
  where
    n : ℕ
    n = length p

    ψ : ℕ → ℕ
    ψ = put φ n j

    old : (i : ℕ) → i < n → ψ i ≡ φ i
    old i h = put_other φ n j i (omega arith)

    new : (i : ℕ) → i ≡ n → ψ i ≡ j
    new i h = put_same φ n j i h

    is_n : (i : ℕ) → i < length (longer p x) → ¬ (i < n) → i ≡ n
    is_n i h k = omega (arith, longer_length p x)

    bnd : (i : ℕ) → i < length (longer p x) → ψ i < length q
    bnd i h = go (dec_lt i n)
      where
        go : Dec (i < n) → ψ i < length q
        go (yes l) = rw (old i l) (o.bound i l)
        go (no l) = rw (new i (is_n i h l)) c.0.inside

    labs : (i : ℕ) → i < length (longer p x) → label_at (longer p x) i ≡ label_at q (ψ i)
    labs i h = go (dec_lt i n)
      where
        go : Dec (i < n) → label_at (longer p x) i ≡ label_at q (ψ i)
        go (yes l) = label_at_node p x i l ∙ o.labels i l ∙ ap (label_at q) (sym (old i l))
        go (no l) = let z = is_n i h l in ap (label_at (longer p x)) z ∙ label_last p x ∙ sym c.1 ∙ ap (label_at q) (sym (new i z))

    inj' : (i k : ℕ) → i < length (longer p x) → k < length (longer p x) → ψ i ≡ ψ k → i ≡ k
    inj' i k h h' r = go (dec_lt i n) (dec_lt k n)
      where
        go : Dec (i < n) → Dec (k < n) → i ≡ k
        go (yes l) (yes m) = o.inj i k l m (sym (old i l) ∙ r ∙ old k m)
        go (yes l) (no m) = absurd (u i l (sym (old i l) ∙ r ∙ new k (is_n k h' m)))
        go (no l) (yes m) = absurd (u k m (sym (old k m) ∙ sym r ∙ new i (is_n i h l)))
        go (no l) (no m) = omega (arith, longer_length p x)

    pars : (i k : ℕ) → i < length (longer p x) → k < length (longer p x) → IsParent (longer p x) i k → IsParent q (ψ i) (ψ k)
    pars i k h h' r = go (dec_lt k n)
      where
        go : Dec (k < n) → IsParent q (ψ i) (ψ k)
        go (yes m) = let l : i < n = omega (arith, r.before) in rw (old i l, old k m) (o.parents i k l m (parent_from p x m r))
        go (no m) =
            let z = is_n k h' m in
            let w : i ≡ b = par_unique (rw z at r) (parent_new e) in
            let l : i < n = omega (arith, e.on_branch.inside) in
            rw (old i l, new k z, w) c.0

-- whoever is placed at a child of b's place is a child of b, with that label
pub user_is_child : {p q : List ℕ} {φ : ℕ → ℕ} {b l w : ℕ} → IsTree p → Embeds p q φ → b < length p → IsChild q (φ b) l w → (i : ℕ) → i < length p → φ i ≡ w → IsChild p b l i
user_is_child {p} {q} {φ} {b} {l} {w} t o h c i k e = (parents_back p q φ (tree_any_depth t) o b i h k (rw (sym e) at c.0), o.labels i k ∙ ap (label_at q) e ∙ c.1)

-- and a child of b with a label goes to such a child
pub child_image : {p q : List ℕ} {φ : ℕ → ℕ} {b l : ℕ} → Embeds p q φ → (i : ℕ) → IsChild p b l i → IsChild q (φ b) l (φ i)
child_image {b = b} o i c = (o.parents b i (omega (arith, c.0.before, c.0.inside)) c.0.inside c.0, sym (o.labels i c.0.inside) ∙ c.1)
