-- LAWS. What a reader keeps of the pairs read so far, in numbers; that it is enough for the rules, and how one more pair moves it.
use mathlib.Core.Path.{◌≡◌, refl, ap, ◌∙◌}
use mathlib.Core.List.{List, [], ◌∷◌, ◌++◌}
use Prim.Native.Nat.{ℕ, zero, suc, ◌+◌, ◌-◌, ◌/◌, ◌%◌, ◌≤◌, ◌<◌}
use native.Mathlib.Omega.{arith}
use native.Mathlib.Decide.{dec_lt, ℕ_discrete}
use lib.ListN.{length, get_or, set, length-append, get_or-append}
use lib.Seq.{get_or-append_seam, get_or-set_same, get_or-set_other}
use Rattle.fleet.proofs.FleetGrowth.{last_end, last_tree_root, last_tree_child, length_onto}
use Rattle.fleet.specs.Node.{last_depth, last_label, last_of, last_tree, DepthAllowed, FamilyAllowed}
use Rattle.fleet.specs.Numbers.{FamilyFits}
use Rattle.terms.proofs.FleetWalk.{vehicles_root, vehicles_child}
use Rattle.terms.specs.Fleet.{vehicles, family, MayStandUnder}
use Rattle.fleet.specs.Reader.{Above, ReaderOf}
use Rattle.fleet.specs.declared.reader.Reader.{Reader}
use Rattle.terms.specs.Tree.{depthAt, label_at, IsParent, pair}

pub kept_first : (families : List ℕ) → ReaderOf [] (record { nodes = 0; deeper = 1; label = 0; trees = 0; in_tree = 0 }) families
unfolding vehicles last_of
kept_first families = record { nodes_are = refl; deeper_is = refl; label_is = refl; trees_are = refl; in_tree_are = refl; above = λ e h. absurd (omega arith) }

-- one more node goes on with a tree: what stood above stays, up to its depth
above_stays : (tree : List ℕ) (x e fam : ℕ) → e < x / 1000 → Above tree e fam → Above (tree ++ x ∷ []) e fam
above_stays tree x e fam h a = record {
  place = a.place;
  inside = omega (arith, length-append tree (x ∷ []), a.inside);
  at_depth = rw (get_or-append tree (x ∷ []) 0 a.place a.inside) a.at_depth;
  later_deeper = λ k p q. go k p (dec_lt k (length tree)) q;
  family_is = rw (get_or-append tree (x ∷ []) 0 a.place a.inside) a.family_is;
}
  where
    go : (k : ℕ) → a.place < k → Dec (k < length tree) → k < length (tree ++ x ∷ []) → e < depthAt (tree ++ x ∷ []) k
    go k p (yes b) q = rw (get_or-append tree (x ∷ []) 0 k b) (a.later_deeper k p b)
    go k p (no b) q = let w : k ≡ length tree = omega (arith, length-append tree (x ∷ [])) in rw (w, get_or-append_seam tree x [] 0) h

above_new : (tree : List ℕ) (x e fam : ℕ) → x / 1000 ≡ e → family (x % 1000) ≡ fam → Above (tree ++ x ∷ []) e fam
above_new tree x e fam w h = record {
  place = length tree;
  inside = omega (arith, length-append tree (x ∷ []));
  at_depth = rw (get_or-append_seam tree x [] 0) w;
  later_deeper = λ k p q. absurd (omega (arith, length-append tree (x ∷ [])));
  family_is = rw (get_or-append_seam tree x [] 0) h;
}

module _ (before : List ℕ) (reader : Reader) (families : List ℕ) (d l : ℕ) (small : l ≤ 999) (s : ReaderOf before reader families) where
  depth_now : last_depth (before ++ pair d l ∷ []) ≡ d
  depth_now = ap (λ (y : ℕ). y / 1000) (last_end before (pair d l)) ∙ omega arith

  label_now : last_label (before ++ pair d l ∷ []) ≡ l
  label_now = ap (λ (y : ℕ). y % 1000) (last_end before (pair d l)) ∙ omega arith

  new_above : (tree : List ℕ) (e : ℕ) → d < length families → e ≡ d → Above (tree ++ pair d l ∷ []) e (get_or (set families d (family l)) e 0)
  new_above tree e h w = rw (w, get_or-set_same families d (family l) 0 h) (above_new tree (pair d l) d (family l) (omega arith) (ap family (omega arith)))

  pub kept_root : d ≡ 0 → d < length families
      → ReaderOf (before ++ pair d l ∷ []) (record { nodes = reader.nodes + 1; deeper = 1; label = l; trees = reader.trees + 1; in_tree = 1 }) (set families d (family l))
  kept_root z h = record {
    nodes_are = omega (arith, length-append before (pair d l ∷ []), s.nodes_are);
    deeper_is = omega (arith, depth_now);
    label_is = label_now;
    trees_are = omega (arith, ap (λ (ts : List (List ℕ)). length ts) (vehicles_root before (pair d l) (omega arith)), length-append (vehicles before) ((pair d l ∷ []) ∷ []), s.trees_are);
    in_tree_are = ap length (last_tree_root before (pair d l) (omega arith));
    above = λ e a b. rw (last_tree_root before (pair d l) (omega arith)) (new_above [] e h (omega (arith, depth_now)));
  }

  pub kept_child : 1 ≤ length before → 1 ≤ d → d ≤ suc (last_depth before) → d < length families
      → ReaderOf (before ++ pair d l ∷ []) (record { nodes = reader.nodes + 1; deeper = d + 1; label = l; trees = reader.trees; in_tree = reader.in_tree + 1 }) (set families d (family l))
  kept_child some z up h = record {
    nodes_are = omega (arith, length-append before (pair d l ∷ []), s.nodes_are);
    deeper_is = omega (arith, depth_now);
    label_is = label_now;
    trees_are = ap (λ (ts : List (List ℕ)). length ts) (vehicles_child before (pair d l) some (omega arith)) ∙ length_onto (pair d l) (vehicles before) ∙ s.trees_are;
    in_tree_are = omega (arith, ap length (last_tree_child before (pair d l) some (omega arith)), length-append (last_tree before) (pair d l ∷ []), s.in_tree_are);
    above = λ e a b. rw (last_tree_child before (pair d l) some (omega arith)) (at e (omega (arith, depth_now)) (ℕ_discrete e d));
  }
    where
      at : (e : ℕ) → e ≤ d → Dec (e ≡ d) → Above (last_tree before ++ pair d l ∷ []) e (get_or (set families d (family l)) e 0)
      at e b (yes w) = new_above (last_tree before) e h w
      at e b (no w) = rw (get_or-set_other families d e (family l) 0 w) (above_stays (last_tree before) (pair d l) e (get_or families e 0) (omega arith) (s.above e some (omega arith)))

module _ (before : List ℕ) (reader : Reader) (families : List ℕ) (d l : ℕ) (s : ReaderOf before reader families) (r5 : DepthAllowed before d) (small : l ≤ 999) where
  some_before : 1 ≤ d → 1 ≤ length before
  some_before h = go (length before) refl
    where
      go : (n : ℕ) → length before ≡ n → 1 ≤ length before
      go zero e = absurd (omega (arith, r5.0 e))
      go (suc n) e = omega arith

  up : 1 ≤ d → Above (last_tree before) (d - 1) (get_or families (d - 1) 0)
  up h = s.above (d - 1) (some_before h) (omega (arith, r5.1.0 (some_before h)))

  new_depth : depthAt (last_tree before ++ pair d l ∷ []) (length (last_tree before)) ≡ d
  new_depth = ap (λ (y : ℕ). y / 1000) (get_or-append_seam (last_tree before) (pair d l) [] 0) ∙ omega arith

  old : (k : ℕ) → k < length (last_tree before) → depthAt (last_tree before ++ pair d l ∷ []) k ≡ depthAt (last_tree before) k
  old k h = ap (λ (y : ℕ). y / 1000) (get_or-append (last_tree before) (pair d l ∷ []) 0 k h)

  pub family_to : FamilyAllowed before d l → FamilyFits families d l
  family_to r = (r.0, λ h. go h (up h))
    where
      go : 1 ≤ d → Above (last_tree before) (d - 1) (get_or families (d - 1) 0) → MayStandUnder (family l) (get_or families (d - 1) 0)
      go h a =
          let p : IsParent (last_tree before ++ pair d l ∷ []) a.place (length (last_tree before)) = record {
            before = a.inside;
            inside = omega (arith, length-append (last_tree before) (pair d l ∷ []));
            one_deeper = omega (arith, new_depth, old a.place a.inside, a.at_depth);
            between = λ k q w. omega (arith, old k w, old a.place a.inside, a.at_depth, a.later_deeper k q w);
          } in
          rw a.family_is at (r.1 a.place p)

  pub family_from : FamilyFits families d l → FamilyAllowed before d l
  family_from f = (f.0, λ i p. go i p (deep i p) (up (deep i p)))
    where
      deep : (i : ℕ) → IsParent (last_tree before ++ pair d l ∷ []) i (length (last_tree before)) → 1 ≤ d
      deep i p = omega (arith, p.one_deeper, new_depth)

      go : (i : ℕ) → IsParent (last_tree before ++ pair d l ∷ []) i (length (last_tree before)) → (h : 1 ≤ d) → Above (last_tree before) (d - 1) (get_or families (d - 1) 0)
          → MayStandUnder (family l) (family (label_at (last_tree before) i))
      go i p h a = rw (w, a.family_is) (f.1 h)
        where
          i_depth : depthAt (last_tree before) i ≡ d - 1
          i_depth = omega (arith, p.one_deeper, new_depth, old i p.before)

          not_after : ¬ (a.place < i)
          not_after q = omega (arith, a.later_deeper i q p.before, i_depth)

          not_before : ¬ (i < a.place)
          not_before q = omega (arith, p.between a.place q a.inside, old i p.before, old a.place a.inside, i_depth, a.at_depth)

          w : i ≡ a.place
          w = omega (arith, not_after, not_before)
