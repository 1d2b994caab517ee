-- LAWS. A tree without the nodes left out is a tree, with the same parents; a vehicle's is a vehicle's.
use mathlib.Core.Path.{◌≡◌, refl, sym, ap, ◌∙◌}
use mathlib.Core.List.{List}
use Prim.Native.Nat.{ℕ, zero, suc, ◌/◌, ◌%◌, ◌≤◌, ◌<◌}
use native.Mathlib.Omega.{arith}
use native.Mathlib.Decide.{dec_lt}
use lib.ListN.{length}
use Rattle.terms.specs.Tree.{depthAt, label_at, IsTree, IsParent}
use Rattle.terms.specs.Fleet.{family, IsVehicle}
use Rattle.terms.specs.Matching.{placeAt}
use Rattle.terms.specs.LeftOut.{LeftOut}
use Rattle.terms.proofs.EmbedsLaws.{has_parent}
use Rattle.terms.proofs.TreeLaws.{tree_any_depth}
use Rattle.terms.proofs.RemainingLaws.{IsRemaining}

module _ {s : List ℕ} {Out : ℕ → Type 0} {t numbers : List ℕ} (p : IsRemaining s Out t numbers) where
  pub depth_kept : (i : ℕ) → i < length t → depthAt t i ≡ depthAt s (placeAt numbers i)
  depth_kept i h = ap (λ (x : ℕ). x / 1000) (p.pair i h)

  pub label_kept : (i : ℕ) → i < length t → label_at t i ≡ label_at s (placeAt numbers i)
  label_kept i h = ap (λ (x : ℕ). x % 1000) (p.pair i h)

  -- the map of positions keeps and reflects their order
  pub order_back : (i j : ℕ) → i < length t → j < length t → placeAt numbers i < placeAt numbers j → i < j
  order_back i j a b h = go (dec_lt i j) (dec_lt j i)
    where
      go : Dec (i < j) → Dec (j < i) → i < j
      go (yes q) _ = q
      go (no q) (yes r) = absurd (omega (arith, p.rising j i r a))
      go (no q) (no r) = let e : i ≡ j = omega arith in absurd (omega (arith, ap (placeAt numbers) e))

  pub order_equal : (i j : ℕ) → i < length t → j < length t → placeAt numbers i ≡ placeAt numbers j → i ≡ j
  order_equal i j a b h = go (dec_lt i j) (dec_lt j i)
    where
      go : Dec (i < j) → Dec (j < i) → i ≡ j
      go (yes q) _ = absurd (omega (arith, p.rising i j q b))
      go (no q) (yes r) = absurd (omega (arith, p.rising j i r a))
      go (no q) (no r) = omega arith

  -- no more nodes than the whole
  pub no_earlier : (i : ℕ) → i < length t → i ≤ placeAt numbers i
  no_earlier zero h = omega arith
  no_earlier (suc i) h = omega (arith, no_earlier i (omega arith), p.rising i (suc i) (omega arith) h)

  pub no_more : length t ≤ length s
  no_more = go (length t) refl
    where
      go : (n : ℕ) → length t ≡ n → length t ≤ length s
      go zero e = omega arith
      go (suc n) e = omega (arith, no_earlier n (omega arith), p.inside n (omega arith))

  module _ (w : IsTree s) (c : LeftOut s Out) where
    -- the parent of a node that stays is itself one that stays
    pub above : (j : ℕ) → j < length t → 0 < placeAt numbers j → (m : ℕ) × (m < j) × IsParent s (placeAt numbers m) (placeAt numbers j)
    above j h q = go (placeAt numbers j) refl
      where
        at : (k : ℕ) → IsParent s k (placeAt numbers j) → (m : ℕ) × (m < j) × IsParent s (placeAt numbers m) (placeAt numbers j)
        at k r =
            let m = p.none_missing k (omega (arith, r.before, p.inside j h)) (λ o. p.stays j h (c.with_all_below k (placeAt numbers j) r o)) in
            let r' : IsParent s (placeAt numbers m.0) (placeAt numbers j) = rw m.2 r in
            (m.0, order_back m.0 j m.1 h r'.before, r')

        parent : (v : ℕ) → suc v < length s → placeAt numbers j ≡ suc v → (k : ℕ) × IsParent s k (placeAt numbers j)
        parent v b e = rw e (has_parent s (tree_any_depth w) v b)

        go : (v : ℕ) → placeAt numbers j ≡ v → (m : ℕ) × (m < j) × IsParent s (placeAt numbers m) (placeAt numbers j)
        go zero e = absurd (omega arith)
        go (suc v) e = let z = parent v (omega (arith, p.inside j h)) e in at z.0 z.1

    pub parent_down : (i j : ℕ) → i < length t → j < length t → IsParent s (placeAt numbers i) (placeAt numbers j) → IsParent t i j
    parent_down i j a b r = record {
      before = order_back i j a b r.before;
      inside = b;
      one_deeper = depth_kept j b ∙ r.one_deeper ∙ ap suc (sym (depth_kept i a));
      between = λ k g h. omega (arith, depth_kept i a, depth_kept k (omega arith), r.between (placeAt numbers k) (p.rising i k g (omega arith)) (p.rising k j h b));
    }

    pub parent_up : (i j : ℕ) → IsParent t i j → IsParent s (placeAt numbers i) (placeAt numbers j)
    parent_up i j r = go (above j b (omega (arith, p.rising i j r.before b)))
      where
        b : j < length t
        b = r.inside

        a : i < length t
        a = omega (arith, r.before, r.inside)

        go : (m : ℕ) × (m < j) × IsParent s (placeAt numbers m) (placeAt numbers j) → IsParent s (placeAt numbers i) (placeAt numbers j)
        go z = at (dec_lt z.0 i) (dec_lt i z.0)
          where
            m : ℕ
            m = z.0

            before : m < j
            before = z.1

            level : depthAt s (placeAt numbers m) ≡ depthAt s (placeAt numbers i)
            level = omega (arith, z.2.one_deeper, r.one_deeper, depth_kept j b, depth_kept i a)

            at : Dec (m < i) → Dec (i < m) → IsParent s (placeAt numbers i) (placeAt numbers j)
            at (yes q) _ = absurd (omega (arith, level, z.2.between (placeAt numbers i) (p.rising m i q a) (p.rising i j r.before b)))
            at (no q) (yes h) = absurd (omega (arith, level, r.between m h before, depth_kept m (omega arith), depth_kept i a))
            at (no q) (no h) = let e : m ≡ i = omega arith in rw e at z.2

    pub some_node : 0 < length t
    some_node = let z = p.none_missing 0 w.has_root c.root_stays in let b = z.1 in omega arith

    pub root_first : placeAt numbers 0 ≡ 0
    root_first = go (p.none_missing 0 w.has_root c.root_stays)
      where
        go : (i : ℕ) × (i < length t) × (placeAt numbers i ≡ 0) → placeAt numbers 0 ≡ 0
        go z = at z.0 z.1 z.2
          where
            at : (i : ℕ) → i < length t → placeAt numbers i ≡ 0 → placeAt numbers 0 ≡ 0
            at zero h e = e
            at (suc i) h e = absurd (omega (arith, p.rising 0 (suc i) (omega arith) h))

    pub remaining_tree : IsTree t
    remaining_tree = record {
      has_root = some_node;
      pairs = λ i h. rw (p.pair i h) (w.pairs (placeAt numbers i) (p.inside i h));
      root_depth = depth_kept 0 some_node ∙ ap (depthAt s) root_first ∙ w.root_depth;
      later_from_1 = λ i h. deep i h (placeAt numbers (suc i)) refl;
      later_to_next = λ i h. next i h (above (suc i) h (omega (arith, p.rising i (suc i) (omega arith) h)));
    }
      where
        deep : (i : ℕ) → suc i < length t → (v : ℕ) → placeAt numbers (suc i) ≡ v → 1 ≤ depthAt t (suc i)
        deep i h zero e = absurd (omega (arith, p.rising i (suc i) (omega arith) h))
        deep i h (suc v) e = omega (arith, depth_kept (suc i) h, ap (depthAt s) e, w.later_from_1 v (omega (arith, p.inside (suc i) h)))

        next : (i : ℕ) → suc i < length t → (m : ℕ) × (m < suc i) × IsParent s (placeAt numbers m) (placeAt numbers (suc i)) → depthAt t (suc i) ≤ suc (depthAt t i)
        next i h z = at (dec_lt z.0 i)
          where
            bound : z.0 < suc i
            bound = z.1

            at : Dec (z.0 < i) → depthAt t (suc i) ≤ suc (depthAt t i)
            at (yes q) = omega (arith, z.2.one_deeper, z.2.between (placeAt numbers i) (p.rising z.0 i q (omega arith)) (p.rising i (suc i) (omega arith) h), depth_kept (suc i) h, depth_kept i (omega arith))
            at (no q) =
                let e : z.0 ≡ i = omega arith in
                let r : IsParent s (placeAt numbers i) (placeAt numbers (suc i)) = rw e at z.2 in
                omega (arith, r.one_deeper, depth_kept (suc i) h, depth_kept i (omega arith))

    pub remaining_vehicle : IsVehicle s → IsVehicle t
    remaining_vehicle v = record {
      is_tree = remaining_tree;
      nodes = omega (arith, no_more, v.nodes);
      depths = λ i h. omega (arith, depth_kept i h, v.depths (placeAt numbers i) (p.inside i h));
      root_family = ap family (label_kept 0 some_node ∙ ap (label_at s) root_first) ∙ v.root_family;
      families = λ i j r. rw (label_kept j r.inside, label_kept i (omega (arith, r.before, r.inside))) (v.families (placeAt numbers i) (placeAt numbers j) (parent_up i j r));
    }
