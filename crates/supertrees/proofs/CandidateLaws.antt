-- LAWS. The candidates of a tree, as sequences: one-node supertrees, and between the tree and any larger one that holds it there is one.
use mathlib.Core.Path.{◌≡◌, refl, sym, ap, ◌∙◌}
use mathlib.Core.List.{List, [], ◌∷◌}
use Prim.Native.Nat.{ℕ, suc, ◌+◌, ◌*◌, ◌/◌, ◌≤◌, ◌<◌}
use native.Mathlib.Omega.{arith}
use lib.ListN.{length}
use Rattle.terms.specs.Tree.{IsTreeAnyDepth}
use Rattle.terms.specs.Matching.{placeAt, SameTree}
use Rattle.terms.specs.Placing.{Occurs}
use Rattle.terms.proofs.Forest.{Forest, nil, cons}
use Rattle.terms.proofs.ForestEmbedding.{size, OccursIn}
use Rattle.terms.proofs.Preorder.{preorder, Labelled, lab_nil, lab_cons}
use Rattle.terms.proofs.PreorderLinks.{Embeds, occs_occ, occ_occs, size_len}
use Rattle.terms.proofs.Canonical.{TreeOf, tree_of, tree_valid}
use Rattle.terms.proofs.MatchingLaws.{placing_occ}
use Rattle.supertrees.specs.Supertree.{ProperSupertree, OneNodeSupertree}
use Rattle.supertrees.specs.Candidate.{with_leaf, deepened, with_root, Candidate, leaf_under, root_above, candidate_tree, IsCandidate}
use Rattle.supertrees.proofs.Grow.{LeafUnder, under_here, under_kids, under_sibs, leaf_below, leaf_size, leaf_lab, leaf_label, OneMore, more_leaf, more_root, one_more, occ_lab, leaf_put_tree, root_embeds, tree_embeds}
use Rattle.supertrees.proofs.AnyDepth.{map_occurs, occurs_same_size}

-- the sequence of a forest with one more leaf
leaf_skip : (k : Forest) (e j m : ℕ) (t : List ℕ) → preorder e k (with_leaf t j m) ≡ with_leaf (preorder e k t) (size k + j) m
unfolding with_leaf
leaf_skip nil e j m t = let q : 0 + j ≡ j = omega arith in rw q
leaf_skip (cons a k s) e j m t =
    let q : suc (size k + size s) + j ≡ suc (size k + (size s + j)) = omega arith in
    rw q (ap (λ (u : List ℕ). (1000 * e + a) ∷ u) (ap (preorder (suc e) k) (leaf_skip s e j m t) ∙ leaf_skip k (suc e) (size s + j) m (preorder e s t)))

pub leaf_sequence : {m i : ℕ} {f g : Forest} (d : ℕ) (r : List ℕ) → Labelled f → LeafUnder m i f g → preorder d g r ≡ with_leaf (preorder d f r) i m
unfolding with_leaf
leaf_sequence {m = m} {i = i} {g = g} d r lab_nil x3 = elim x3 [ ]
leaf_sequence {m} d r (lab_cons {a = a} {k = k} {s = s} p q lk ls) (under_here e) =
    let z : (1000 * d + a) / 1000 ≡ d = omega arith in
    rw (e, z)
leaf_sequence d r (lab_cons {a = a} {k = k} {s = s} p q lk ls) (under_kids x e u) = rw e (ap (λ (t : List ℕ). (1000 * d + a) ∷ t) (leaf_sequence (suc d) (preorder d s r) lk u))
leaf_sequence {m} d r (lab_cons {a = a} {k = k} {s = s} p q lk ls) (under_sibs x e u) =
    rw e (ap (λ (t : List ℕ). (1000 * d + a) ∷ t) (ap (preorder (suc d) k) (leaf_sequence d r ls u) ∙ leaf_skip k (suc d) x m (preorder d s r)))

-- the sequence of a forest one deeper
pub deeper_sequence : (f : Forest) (d : ℕ) (r : List ℕ) → preorder (suc d) f (deepened r) ≡ deepened (preorder d f r)
unfolding deepened
deeper_sequence nil d r = refl
deeper_sequence (cons a k s) d r =
    let z : 1000 * suc d + a ≡ 1000 + (1000 * d + a) = omega arith in
    rw z (ap (λ (t : List ℕ). (1000 + (1000 * d + a)) ∷ t) (ap (preorder (suc (suc d)) k) (deeper_sequence s d r) ∙ deeper_sequence k (suc d) (preorder d s r)))

-- the tree of a candidate, as a tree
pub record Grown (p : List ℕ) (c : Candidate) : Type 0 where
  pub root : ℕ
  pub kids : Forest
  pub labs : Labelled (cons root kids nil)
  pub reads : candidate_tree p c ≡ preorder 0 (cons root kids nil) []

grown_leaf : (p : List ℕ) (x : TreeOf p) {m i : ℕ} {k : Forest} → LeafUnder m i (cons x.root x.kids nil) (cons x.root k nil) → Labelled (cons x.root k nil) → Grown p (leaf_under i m)
unfolding candidate_tree
grown_leaf p x {m} {i} u l = record { root = x.root; kids = _; labs = l; reads = ap (λ (s : List ℕ). with_leaf s i m) x.reads ∙ sym (leaf_sequence 0 [] x.labs u) }

grown_root : (p : List ℕ) (x : TreeOf p) {m : ℕ} → Labelled (cons m (cons x.root x.kids nil) nil) → Grown p (root_above m)
unfolding candidate_tree with_root deepened
grown_root p x {m} l = record { root = m; kids = cons x.root x.kids nil; labs = l; reads = ap (λ (s : List ℕ). (1000 * 0 + m) ∷ s) (ap deepened x.reads ∙ sym (deeper_sequence (cons x.root x.kids nil) 0 [])) }

grown_valid : {p : List ℕ} {c : Candidate} → Grown p c → IsTreeAnyDepth (candidate_tree p c)
grown_valid g = rw g.reads (tree_valid g.root g.kids g.labs)

grown_length : {p : List ℕ} {c : Candidate} → (g : Grown p c) → length (candidate_tree p c) ≡ suc (size g.kids)
grown_length g = ap length g.reads ∙ omega (arith, size_len (cons g.root g.kids nil) 0)

tree_length : {p : List ℕ} → (x : TreeOf p) → length p ≡ suc (size x.kids)
tree_length x = ap length x.reads ∙ omega (arith, size_len (cons x.root x.kids nil) 0)

occurs_in_sequence : (a b : ℕ) (k l : Forest) → Labelled (cons a k nil) → Labelled (cons b l nil) → OccursIn a k (cons b l nil) → Occurs (preorder 0 (cons a k nil) []) (preorder 0 (cons b l nil) [])
occurs_in_sequence a b k l la lb o = map_occurs (tree_valid a k la) (occ_occs a k (cons b l nil) la lb o).1

-- ONE MORE NODE: between a tree and a larger one that holds it stands one of the candidates
pub record Between (p q : List ℕ) : Type 0 where
  pub candidate : Candidate
  pub is_candidate : IsCandidate p candidate
  pub is_tree : IsTreeAnyDepth (candidate_tree p candidate)
  pub below : Occurs (candidate_tree p candidate) q

pub one_node_between : (p q : List ℕ) → IsTreeAnyDepth p → ProperSupertree p q → Between p q
unfolding grown_leaf grown_root
one_node_between p q tp sup = go (tree_of p tp) (tree_of q sup.is_tree)
  where
    go : TreeOf p → TreeOf q → Between p q
    go x y = at (one_more o (omega (arith, sup.more_nodes, tree_length x, tree_length y)))
      where
        map : Embeds p q (placeAt sup.occurs.tuple)
        map = placing_occ sup.occurs.placing

        o : OccursIn x.root x.kids (cons y.root y.kids nil)
        o = occs_occ x.root x.kids (cons y.root y.kids nil) (placeAt sup.occurs.tuple) x.labs y.labs (rw (x.reads, y.reads) at map)

        below : {c : Candidate} → (g : Grown p c) → OccursIn g.root g.kids (cons y.root y.kids nil) → Occurs (candidate_tree p c) q
        below g o' = rw (g.reads, y.reads) (occurs_in_sequence g.root y.root g.kids y.kids g.labs y.labs o')

        at : OneMore x.root x.kids (cons y.root y.kids nil) → Between p q
        at (more_leaf m i u o') =
            let l = occ_lab o' y.labs in
            let g = grown_leaf p x u l in
            let b = leaf_label u l in
            record { candidate = leaf_under i m; is_candidate = record { node = omega (arith, leaf_below u, tree_length x); from_1 = b.0; to_999 = omega (arith, b.1) }; is_tree = grown_valid g; below = below g o' }
        at (more_root m o') =
            let l = occ_lab o' y.labs in
            let g = grown_root p x l in
            let b = top l in
            record { candidate = root_above m; is_candidate = record { node = omega (arith, tree_length x); from_1 = b.0; to_999 = omega (arith, b.1) }; is_tree = grown_valid g; below = below g o' }
          where
            top : {a : ℕ} {k : Forest} → Labelled (cons a k nil) → (1 ≤ a) × (a < 1000)
            top (lab_cons p q _ _) = (p, q)

-- the other way: a candidate's tree is a one-node supertree
pub candidate_supertree : (p : List ℕ) (c : Candidate) → IsTreeAnyDepth p → IsCandidate p c → OneNodeSupertree p (candidate_tree p c)
unfolding grown_leaf grown_root
candidate_supertree p c tp h = go c h (tree_of p tp)
  where
    made : {c : Candidate} (x : TreeOf p) → (g : Grown p c) → size g.kids ≡ suc (size x.kids) → OccursIn x.root x.kids (cons g.root g.kids nil) → OneNodeSupertree p (candidate_tree p c)
    made x g e o = record {
      is_tree = grown_valid g;
      occurs = rw (g.reads, x.reads) (occurs_in_sequence x.root g.root x.kids g.kids x.labs g.labs o);
      one_more = omega (arith, grown_length g, tree_length x);
    }

    go : (c : Candidate) → IsCandidate p c → TreeOf p → OneNodeSupertree p (candidate_tree p c)
    go (leaf_under i m) h x =
        let z = leaf_put_tree m x.root x.kids i (omega (arith, h.node, tree_length x)) in
        made x (grown_leaf p x z.put (leaf_lab h.from_1 (omega (arith, h.to_999)) z.put x.labs)) (omega (arith, leaf_size z.put)) (tree_embeds x.root z.embeds)
    go (root_above m) h x = made x (grown_root p x (lab_cons h.from_1 (omega (arith, h.to_999)) x.labs lab_nil)) (omega arith) (root_embeds m x.root x.kids)

pub one_node_proper : {p q : List ℕ} → OneNodeSupertree p q → ProperSupertree p q
one_node_proper s = record { is_tree = s.is_tree; occurs = s.occurs; more_nodes = omega (arith, s.one_more) }

-- EVERY ONE-NODE SUPERTREE is the same, up to the order of children, as a candidate's tree
pub record CoveredBy (p q : List ℕ) : Type 0 where
  pub candidate : Candidate
  pub is_candidate : IsCandidate p candidate
  pub same : SameTree (candidate_tree p candidate) q

pub candidates_cover : (p q : List ℕ) → IsTreeAnyDepth p → OneNodeSupertree p q → CoveredBy p q
candidates_cover p q tp s =
    let b = one_node_between p q tp (one_node_proper s) in
    let z = candidate_supertree p b.candidate tp b.is_candidate in
    record { candidate = b.candidate; is_candidate = b.is_candidate; same = occurs_same_size b.is_tree (z.one_more ∙ sym s.one_more) b.below }
