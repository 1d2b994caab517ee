-- LAWS. What is sought is frequent and within the bound, and closed under beginnings.
use mathlib.Core.Path.{◌≡◌}
use mathlib.Core.List.{List, [], ◌∷◌, ◌++◌}
use Prim.Native.Nat.{ℕ, suc, ◌%◌, ◌≤◌, ◌<◌}
use native.Mathlib.Omega.{arith}
use native.Mathlib.Numerals.{add-one}
use lib.ListN.{length, get_or, take, length-append}
use lib.Seq.{take-append-add, length-take-le, get_or-append_seam}
use Rattle.terms.specs.Tree.{IsTree}
use Rattle.terms.proofs.BeginningLaws.{beginning_tree, beginning_occurs, beginning_in_form}
use Rattle.terms.proofs.TreeLaws.{tree_any_depth}
use Rattle.search.specs.Sought.{Search, Sought, search_never_grows}
use Rattle.scan.specs.Scan.{Frequent}

pub sought_frequent : {search : Search} {form : List ℕ} → Sought search form → Frequent search.fleet search.threshold form
sought_frequent s = record { in_form = s.in_form; enough = s.enough }

pub frequent_sought : {search : Search} {form : List ℕ} → Frequent search.fleet search.threshold form → length form ≤ search.bound → Sought search form
frequent_sought f h = record { in_form = f.in_form; up_to_bound = h; enough = f.enough }

-- closed under beginnings
pub beginning_sought : (search : Search) (s : List ℕ) (n : ℕ) → suc n ≤ length s → Sought search s → Sought search (take (suc n) s)
beginning_sought search s n h z =
    let t = z.in_form.is_tree in
    record {
      in_form = beginning_in_form s n h z.in_form;
      up_to_bound = omega (arith, length-take-le (suc n) s h, z.up_to_bound);
      enough = omega (arith, z.enough, search_never_grows search (take (suc n) s) s (tree_any_depth (beginning_tree s n h t)) (tree_any_depth t) (beginning_occurs s n h t));
    }

pub sought_closed : (search : Search) (q : List ℕ) (z : ℕ) (v : List ℕ) → Sought search (q ++ z ∷ v) → Sought search (q ++ z ∷ [])
sought_closed search q z v l =
    let e : take (suc (length q)) (q ++ z ∷ v) ≡ q ++ z ∷ [] = rw (add-one (length q)) at (take-append-add q (z ∷ v) 1) in
    rw e at (beginning_sought search (q ++ z ∷ v) (length q) (omega (arith, length-append q (z ∷ v))) l)

-- the last pair of a tree is none of the numbers without a label
last_positive : (q : List ℕ) (z : ℕ) → IsTree (q ++ z ∷ []) → 0 < z
last_positive q z t =
    let p = (t.pairs (length q) (omega (arith, length-append q (z ∷ [])))).label_from_1 in
    let e : get_or (q ++ z ∷ []) (length q) 0 ≡ z = get_or-append_seam q z [] 0 in
    let p' : 1 ≤ z % 1000 = rw e at p in
    omega arith

pub sought_positive : (search : Search) (q : List ℕ) (z : ℕ) → Sought search (q ++ z ∷ []) → 0 < z
sought_positive search q z s = last_positive q z s.in_form.is_tree
