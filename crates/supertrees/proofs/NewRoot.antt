-- LAWS. A tree with a new root occurs exactly above the places of the old root: new roots are counted without any matching.
use mathlib.Core.Path.{◌≡◌, refl, sym, ap, ◌∙◌}
use mathlib.Core.Logic.{◌↔◌}
use mathlib.Core.List.{List, ◌∷◌}
use Prim.Native.Nat.{ℕ, zero, suc, ◌+◌, ◌-◌, ◌*◌, ◌/◌, ◌%◌, ◌<◌}
use native.Mathlib.Omega.{arith}
use lib.ListN.{length, get_or}
use Rattle.terms.specs.Tree.{depthAt, label_at, IsParent, IsTreeAnyDepth}
use Rattle.terms.specs.Matching.{placeAt}
use Rattle.terms.specs.Placing.{Occurs, OccursAt}
use Rattle.terms.proofs.PreorderLinks.{Embeds}
use Rattle.terms.proofs.EmbedsLaws.{image_first, occ_comp}
use Rattle.terms.proofs.MatchingLaws.{numbers_at, placing_occ, occ_placing_any_depth}
use Rattle.supertrees.specs.Candidate.{deepened, with_root, root_above, candidate_tree, IsCandidate}
use Rattle.supertrees.proofs.CandidateLaws.{candidate_supertree}
use Rattle.supertrees.proofs.CandidateNodes.{deepened_length, deepened_at}

-- The root has a place below the node v, which has the new root's label.
pub record AbovePlace (p t : List ℕ) (l v : ℕ) : Type 0 where
  pub label : label_at t v ≡ l
  pub place : ℕ
  pub child : IsParent t v place
  pub occurs : OccursAt p t place

module _ (p : List ℕ) (l : ℕ) (tp : IsTreeAnyDepth p) (c : IsCandidate p (root_above l)) where
  abbrev whole : List ℕ
  whole = (1000 * 0 + l) ∷ deepened p

  deep : (j : ℕ) → j < length p → depthAt (deepened p) j ≡ suc (depthAt p j)
  deep j h = rw (deepened_at p j h) (omega arith)

  -- the old nodes in the new tree
  old_nodes : Embeds p whole (λ i. suc i)
  old_nodes = record {
    bound = λ i h. omega (arith, deepened_length p);
    labels = λ i h. rw (deepened_at p i h) (omega arith);
    inj = λ i j h k e. omega arith;
    parents = parents;
  }
    where
      parents : (i j : ℕ) → i < length p → j < length p → IsParent p i j → IsParent whole (suc i) (suc j)
      parents i j h k r = record { before = omega (arith, r.before); inside = omega (arith, deepened_length p); one_deeper = deep j k ∙ ap suc r.one_deeper ∙ ap suc (sym (deep i h)); between = between }
        where
          between : (m : ℕ) → suc i < m → m < suc j → depthAt (deepened p) i < depthAt whole m
          between zero a b = absurd (omega arith)
          between (suc m) a b = omega (arith, deep i h, deep m (omega arith), r.between m (omega arith) (omega arith))

  old_parents : (i j : ℕ) → i < length p → j < length p → IsParent whole (suc i) (suc j) → IsParent p i j
  old_parents i j h k r = record {
    before = omega (arith, r.before);
    inside = k;
    one_deeper = omega (arith, r.one_deeper, deep i h, deep j k);
    between = λ m a b. omega (arith, r.between (suc m) (omega arith) (omega arith), deep i h, deep m (omega arith));
  }

  root_child : IsParent whole 0 1
  root_child = record { before = omega arith; inside = omega (arith, deepened_length p, tp.has_root); one_deeper = deep 0 tp.has_root ∙ ap suc (tp.root_depth ∙ top); between = λ m a b. absurd (omega arith) }
    where
      top : 0 ≡ (1000 * 0 + l) / 1000
      top = omega (arith, c.to_999)

  only_child : (j : ℕ) → j < length p → IsParent whole 0 (suc j) → j ≡ 0
  only_child zero h r = refl
  only_child (suc j) h r = absurd (omega (arith, r.one_deeper, deep (suc j) h, tp.later_from_1 j h, c.to_999))

  -- NEW ROOTS, EXACTLY
  above_place : (t : List ℕ) (v : ℕ) → OccursAt whole t v → AbovePlace p t l v
  above_place t v o = record {
    label = sym (ap (label_at t) here) ∙ sym (m.labels 0 (omega arith)) ∙ own;
    place = placeAt o.tuple 1;
    child = rw here at (m.parents 0 1 (omega arith) (omega (arith, deepened_length p, tp.has_root)) root_child);
    occurs = record { tuple = _; placing = occ_placing_any_depth tp (occ_comp p whole t (λ i. suc i) (placeAt o.tuple) old_nodes m); root = numbers_at (length p) (λ i. placeAt o.tuple (suc i)) 0 tp.has_root };
  }
    where
      m : Embeds whole t (placeAt o.tuple)
      m = placing_occ o.placing

      here : placeAt o.tuple 0 ≡ v
      here = omega (arith, o.root)

      own : (1000 * 0 + l) % 1000 ≡ l
      own = omega (arith, c.to_999)

  place_above : (t : List ℕ) (v : ℕ) → AbovePlace p t l v → OccursAt whole t v
  unfolding candidate_tree with_root
  place_above t v a = record { tuple = _; placing = occ_placing_any_depth (candidate_supertree p (root_above l) tp c).is_tree embeds; root = numbers_at (suc (length (deepened p))) φ 0 (omega arith) }
    where
      ψ : ℕ → ℕ
      ψ = placeAt a.occurs.tuple

      m : Embeds p t ψ
      m = placing_occ a.occurs.placing

      here : ψ 0 ≡ a.place
      here = omega (arith, a.occurs.root)

      φ : ℕ → ℕ
      φ zero = v
      φ (suc i) = ψ i

      far : (i : ℕ) → i < length p → v < ψ i
      far i h = omega (arith, image_first i p t ψ tp m i (omega arith) h, a.child.before, here)

      bound : (i : ℕ) → i < suc (length (deepened p)) → φ i < length t
      bound zero h = omega (arith, a.child.before, a.child.inside)
      bound (suc i) h = m.bound i (omega (arith, deepened_length p))

      labels : (i : ℕ) → i < suc (length (deepened p)) → label_at whole i ≡ label_at t (φ i)
      labels zero h = omega (arith, a.label, c.to_999)
      labels (suc i) h =
          let k : i < length p = omega (arith, deepened_length p) in
          rw (deepened_at p i k) (omega (arith, m.labels i k))

      inj : (i j : ℕ) → i < suc (length (deepened p)) → j < suc (length (deepened p)) → φ i ≡ φ j → i ≡ j
      inj zero zero h k e = refl
      inj zero (suc j) h k e = absurd (omega (arith, far j (omega (arith, deepened_length p))))
      inj (suc i) zero h k e = absurd (omega (arith, far i (omega (arith, deepened_length p))))
      inj (suc i) (suc j) h k e = ap suc (m.inj i j (omega (arith, deepened_length p)) (omega (arith, deepened_length p)) e)

      parents : (i j : ℕ) → i < suc (length (deepened p)) → j < suc (length (deepened p)) → IsParent whole i j → IsParent t (φ i) (φ j)
      parents i zero h k r = absurd (omega (arith, r.before))
      parents zero (suc j) h k r = rw (only_child j (omega (arith, deepened_length p)) r, here) a.child
      parents (suc i) (suc j) h k r =
          let hi : i < length p = omega (arith, deepened_length p) in
          let hj : j < length p = omega (arith, deepened_length p) in
          m.parents i j hi hj (old_parents i j hi hj r)

      embeds : Embeds whole t φ
      embeds = record { bound = bound; labels = labels; inj = inj; parents = parents }

  pub root_above_exactly : (t : List ℕ) (v : ℕ) → OccursAt (with_root p l) t v ↔ AbovePlace p t l v
  unfolding with_root
  root_above_exactly t v = (above_place t v, place_above t v)

  -- in a tree: some node of the new root's label stands right above a place of the old root
  pub root_occurs_exactly : (t : List ℕ) → Occurs (with_root p l) t ↔ ((v : ℕ) × AbovePlace p t l v)
  unfolding candidate_tree
  root_occurs_exactly t = (to, from)
    where
      to : Occurs (with_root p l) t → (v : ℕ) × AbovePlace p t l v
      to o =
          let some : 0 < length (with_root p l) = (candidate_supertree p (root_above l) tp c).is_tree.has_root in
          let at = o.placing.from_1 0 some in
          (get_or o.tuple 0 0 - 1, (root_above_exactly t (get_or o.tuple 0 0 - 1)).0 (record { tuple = o.tuple; placing = o.placing; root = omega arith }))

      from : (v : ℕ) × AbovePlace p t l v → Occurs (with_root p l) t
      from z = let o = (root_above_exactly t z.0).1 z.1 in record { tuple = o.tuple; placing = o.placing }
