-- LAWS. Every tree has one form; what is in its form; the form of the same tree.
use mathlib.Core.Path.{◌≡◌, refl, sym, ap, ◌∙◌}
use mathlib.Core.List.{List, []}
use Prim.Native.Nat.{ℕ, zero, suc, ◌≤◌, ◌<◌}
use native.Mathlib.Omega.{arith}
use lib.ListN.{length}
use Rattle.terms.specs.Matching.{SameTree}
use Rattle.terms.specs.Form.{IsForm, InForm}
use Rattle.terms.specs.Tree.{depthAt, IsTree, IsTreeAnyDepth}
use Rattle.terms.specs.Claims.{FormExists}
use Rattle.terms.proofs.Forest.{Forest, nil, cons}
use Rattle.terms.proofs.ForestSort.{Reordered, sort, eqv_sort, lh_sorted}
use Rattle.terms.proofs.OrderLaws.{compare_weight, Compared, is_lighter, is_equal, is_heavier}
use Rattle.terms.proofs.Preorder.{preorder}
use Rattle.terms.proofs.Canonical.{SameByMap, TreeOf, tree_of, tree_valid as enc_valid, eqv_same, HeaviestAnyDepth, lh_canon, One, one, eqv_one, eqv_lab}
use Rattle.terms.proofs.EmbedsLaws.{has_parent, image_first}
use Rattle.terms.proofs.TreeLaws.{tree_any_depth, tree_to_15}
use Rattle.terms.proofs.MatchingLaws.{same_to, same_from, same_symmetric, same_transitive, same_reflexive, none_over}

-- the same tree keeps depths
depth_kept : (n : ℕ) {s t : List ℕ} (vs : IsTreeAnyDepth s) (vt : IsTreeAnyDepth t) (e : SameByMap s t) → e.map 0 ≡ 0 → (i : ℕ) → i ≤ n → i < length s → depthAt t (e.map i) ≡ depthAt s i
depth_kept zero {s} {t} vs vt e r zero b h = ap (depthAt t) r ∙ vt.root_depth ∙ sym vs.root_depth
depth_kept (suc n) {s} {t} vs vt e r zero b h = ap (depthAt t) r ∙ vt.root_depth ∙ sym vs.root_depth
depth_kept zero vs vt e r (suc i) b h = absurd (omega arith)
depth_kept (suc n) {s} {t} vs vt e r (suc i) b h =
    let z = has_parent s vs i h in
    let a : z.0 < suc i = z.1.before in
    let k = e.occurs.parents z.0 (suc i) (omega arith) h z.1 in
    k.one_deeper ∙ ap suc (depth_kept n vs vt e r z.0 (omega arith) (omega arith)) ∙ sym z.1.one_deeper

pub same_valid_tree : {s t : List ℕ} → IsTree s → IsTreeAnyDepth t → SameByMap s t → IsTree t
same_valid_tree {s} {t} ts vt e = tree_to_15 vt bound
  where
    vs : IsTreeAnyDepth s
    vs = tree_any_depth ts

    from : (v : ℕ) → v < length t → (i : ℕ) × (i < length s) × (e.map i ≡ v)
    from v h = none_over (length s) e.map (λ i q. omega (arith, e.occurs.bound i q, e.size)) e.occurs.inj v (omega (arith, e.size))

    root : e.map 0 ≡ 0
    root =
        let z = from 0 vt.has_root in
        let m = image_first z.0 s t e.map vs e.occurs z.0 (omega arith) z.1 in
        omega (arith, z.2)

    bound : (v : ℕ) → v < length t → depthAt t v ≤ 15
    bound v h =
        let z = from v h in
        let d : depthAt t v ≡ depthAt s z.0 = ap (depthAt t) (sym z.2) ∙ depth_kept z.0 vs vt e root z.0 (omega arith) z.1 in
        omega (arith, (ts.pairs z.0 z.1).depth_to_15)

pub form_unique : {s f g : List ℕ} → IsForm s f → IsForm s g → f ≡ g
form_unique {s} {f} {g} a b = go (compare_weight f g)
  where
    go : Compared f g → f ≡ g
    go (is_lighter h) = absurd (a.none_heavier g b.is_tree b.same h)
    go (is_equal h) = h
    go (is_heavier h) = absurd (b.none_heavier f a.is_tree a.same h)

pub form_in_form : {s f : List ℕ} → IsTree s → IsForm s f → InForm f
form_in_form ts a = record { is_tree = a.is_tree; same = same_reflexive a.is_tree; none_heavier = λ g tg e. a.none_heavier g tg (same_transitive ts a.same e) }

pub canon_in_form : {f : List ℕ} → IsTree f → HeaviestAnyDepth f → InForm f
unfolding HeaviestAnyDepth
canon_in_form tf c = record { is_tree = tf; same = same_reflexive tf; none_heavier = λ g tg e h. c g (tree_any_depth tg) (same_to e) h }

pub in_form_canon : {f : List ℕ} → InForm f → HeaviestAnyDepth f
unfolding HeaviestAnyDepth
in_form_canon {f} a g vg e h = a.none_heavier g (same_valid_tree a.is_tree vg e) (same_from a.is_tree e) h

-- the form of whatever is the same tree
pub form_of_same : {s t f : List ℕ} → IsTree s → IsTree t → SameTree s t → IsForm t f → IsForm s f
form_of_same ts tt e a = record { is_tree = a.is_tree; same = same_transitive ts e a.same; none_heavier = λ g tg q. a.none_heavier g tg (same_transitive tt (same_symmetric ts tt e) q) }

pub form_exists : FormExists
form_exists s ts = go (tree_of s (tree_any_depth ts))
  where
    go : TreeOf s → (f : List ℕ) × IsForm s f
    go x = at (sort t) refl (eqv_one (eqv_sort t) (one x.root x.kids))
      where
        t : Forest
        t = cons x.root x.kids nil

        at : (g : Forest) → sort t ≡ g → One g → (f : List ℕ) × IsForm s f
        at g e (one b m) =
            let ev : Reordered t (cons b m nil) = rw e at (eqv_sort t) in
            let lb = eqv_lab ev x.labs in
            let f = preorder 0 (cons b m nil) [] in
            let sm : SameByMap s f = rw x.reads (eqv_same x.root b x.kids m x.labs lb ev) in
            let tf = same_valid_tree ts (enc_valid b m lb) sm in
            let fm : InForm f = canon_in_form tf (lh_canon b m lb (rw e at (lh_sorted t))) in
            (f, form_of_same ts tf (same_from ts sm) fm)
