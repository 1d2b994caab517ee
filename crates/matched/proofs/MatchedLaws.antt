-- LAWS. A pattern one of whose beginnings can have a leaf more wherever it occurs: it can have the leaf too, in as many vehicles, unless it goes on
-- with that pair.
use mathlib.Core.Path.{◌≡◌, sym, ap, ◌∙◌}
use mathlib.Core.List.{List, []}
use Prim.Native.Nat.{ℕ, suc, ◌/◌, ◌%◌, ◌≤◌, ◌<◌}
use native.Mathlib.Omega.{arith}
use native.Mathlib.Decide.{dec_lt}
use lib.ListN.{length, get_or, take}
use lib.Seq.{length-take-le, get_or-take}
use Rattle.terms.specs.Tree.{depthAt, IsTree, IsTreeAnyDepth}
use Rattle.terms.specs.Matching.{placeAt}
use Rattle.terms.specs.Placing.{Occurs}
use Rattle.terms.specs.Fleet.{vehicles}
use Rattle.terms.proofs.EmbedsLaws.{occ_prefix}
use Rattle.terms.proofs.OccursDecided.{occurs?}
use Rattle.terms.proofs.TreeLaws.{tree_any_depth, tree_to_15}
use Rattle.vehicles.specs.Vehicle.{stretch}
use Rattle.occurrence.specs.Support.{whole_support}
use Rattle.supertrees.specs.Supertree.{OneNodeSupertree}
use Rattle.supertrees.specs.Candidate.{with_leaf, leaf_under, candidate_tree, IsCandidate}
use Rattle.supertrees.proofs.CandidateLaws.{candidate_supertree}
use Rattle.supertrees.proofs.CandidateNodes.{leaf_length, leaf_depths, leaf_map, leaf_map_parent, leaf_embeds}
use Rattle.rightmost.specs.Ends.{PlacedAt, IsChild, child?, count_below, children}
use Rattle.rightmost.specs.Vehicles.{VehicleNumbered, VehiclesNumbered}
use Rattle.rightmost.proofs.BranchLaws.{Maps, placed_maps, maps_placed}
use Rattle.rightmost.proofs.Counting.{LeftOver, left_over, count_into}
use Rattle.rightmost.proofs.LongerLaws.{user_is_child}
use Rattle.rightmost.proofs.FleetPlaces.{fleet_places, places_inside, support_counts}
use Rattle.matched.specs.Matched.{OccurrenceMatched, Lacks}

module _ {fleet p : List ℕ} {n x b : ℕ} (t : IsTree p) (h : n ≤ length p) (m : OccurrenceMatched fleet (take n p) x b) (none : Lacks p x n (length p)) where
  l : ℕ
  l = x % 1000

  long : length (take n p) ≡ n
  long = length-take-le n p h

  early : b < n
  early = omega (arith, long, m.new_child.on_branch.inside)

  inside : b < length p
  inside = omega (arith, early)

  same : (i : ℕ) → i < n → depthAt (take n p) i ≡ depthAt p i
  same i k = ap (λ (y : ℕ). y / 1000) (get_or-take n p i 0 k)

  one_deeper : x / 1000 ≡ suc (depthAt p b)
  one_deeper = m.new_child.one_deeper ∙ ap suc (same b early)

  -- a child of b with the label is the pair, so it is one of the beginning
  child_early : (i : ℕ) → IsChild p b l i → (i < length (take n p)) × IsChild (take n p) b l i
  unfolding l
  child_early i c = go (dec_lt i n)
    where
      go : Dec (i < n) → (i < length (take n p)) × IsChild (take n p) b l i
      go (no k) = absurd (none i (omega arith) c.0.inside (omega (arith, c.0.one_deeper, c.1, one_deeper)))
      go (yes k) = (
        omega (arith, long),
        (
          record {
            before = c.0.before;
            inside = omega (arith, long);
            one_deeper = same i k ∙ c.0.one_deeper ∙ ap suc (sym (same b early));
            between = λ j u v. omega (arith, c.0.between j u v, same b early, same j (omega arith));
          },
          ap (λ (y : ℕ). y % 1000) (get_or-take n p i 0 k) ∙ c.1,
        ),
      )

  no_more : children p b l ≤ children (take n p) b l
  unfolding children
  no_more = count_into (child? p b l) (child? (take n p) b l) (length p) (length (take n p)) (λ i. i) (λ i _ c. child_early i c) (λ i j _ _ _ _ e. e)

  -- the larger tree
  candidate : IsCandidate p (leaf_under b l)
  unfolding l
  candidate = record { node = inside; from_1 = m.new_child.is_pair.label_from_1; to_999 = omega arith }

  larger : OneNodeSupertree p (with_leaf p b l)
  unfolding candidate_tree
  larger = candidate_supertree p (leaf_under b l) (tree_any_depth t) candidate

  larger_tree : IsTree (with_leaf p b l)
  larger_tree = tree_to_15 larger.is_tree (leaf_depths p b l inside (λ k g. (t.pairs k g).depth_to_15) (omega (arith, one_deeper, m.new_child.is_pair.depth_to_15)) candidate.to_999)

  inside_larger : b < length (with_leaf p b l)
  inside_larger = omega (arith, inside, leaf_length p b l inside)

  -- wherever b is placed, it is placed with the leaf
  placed_larger : {d : ℕ} → PlacedAt p fleet b d → PlacedAt (with_leaf p b l) fleet b d
  unfolding children l
  placed_larger {d} z = go (placed_maps z)
    where
      go : Maps p fleet b d → PlacedAt (with_leaf p b l) fleet b d
      go y = maps_placed larger_tree inside_larger (record {
        map = leaf_map p b l inside any top y.embeds kid.0 kid.1 unused;
        embeds = leaf_embeds p b l inside any top y.embeds kid.0 kid.1 unused;
        there = leaf_map_parent p b l inside any top y.embeds kid.0 kid.1 unused ∙ y.there;
      })
        where
          more : children p b l < children fleet d l
          more = omega (arith, no_more, m.everywhere d (maps_placed m.new_child.is_tree m.new_child.on_branch.inside (record { map = y.map; embeds = occ_prefix p fleet y.map n h y.embeds; there = y.there })))

          free : LeftOver (IsChild p b l) (IsChild fleet d l) (length p) (length fleet) y.map
          free = left_over (child? p b l) (child? fleet d l) (length p) (length fleet) y.map more

          any : IsTreeAnyDepth p
          any = tree_any_depth t

          top : l ≤ 999
          top = candidate.to_999

          kid : IsChild fleet (y.map b) l free.place
          kid = rw y.there free.is_so

          unused : (k : ℕ) → k < length p → ¬ (y.map k ≡ free.place)
          unused k g e = free.unused k g (user_is_child t y.embeds inside kid k g e) e

  -- a vehicle that holds the pattern holds the larger tree
  held_larger : {table : List ℕ} {i : ℕ} → VehicleNumbered fleet table i → Occurs p (get_or (vehicles fleet) i []) → Occurs (with_leaf p b l) (get_or (vehicles fleet) i [])
  held_larger v o = rw v.tree (go (rw v.tree at o))
    where
      go : Occurs p (stretch fleet v.start v.end) → Occurs (with_leaf p b l) (stretch fleet v.start v.end)
      go z =
          let at : PlacedAt p (stretch fleet v.start v.end) b (placeAt z.tuple b) = record { tuple = z.tuple; placing = z.placing; there = omega (arith, z.placing.from_1 b inside) } in
          let y = (fleet_places v.stands t inside).0 at in
          let r = places_inside v.stands larger_tree inside_larger (omega arith) y.1 (placed_larger y.0) in
          record { tuple = r.tuple; placing = r.placing }

  pub matched_larger : {table : List ℕ} → VehiclesNumbered fleet table → OneNodeSupertree p (with_leaf p b (x % 1000)) × (whole_support fleet p ≤ whole_support fleet (with_leaf p b (x % 1000)))
  unfolding l
  matched_larger v = (larger, omega (arith, own, others, into))
    where
      holds? : (q : List ℕ) (i : ℕ) → Dec (Occurs q (get_or (vehicles fleet) i []))
      holds? q i = occurs? q (get_or (vehicles fleet) i [])

      own : whole_support fleet p ≡ count_below (holds? p) (length (vehicles fleet))
      own = support_counts fleet p (holds? p) (λ i _. ((λ z. z), (λ z. z)))

      others : whole_support fleet (with_leaf p b l) ≡ count_below (holds? (with_leaf p b l)) (length (vehicles fleet))
      others = support_counts fleet (with_leaf p b l) (holds? (with_leaf p b l)) (λ i _. ((λ z. z), (λ z. z)))

      into : count_below (holds? p) (length (vehicles fleet)) ≤ count_below (holds? (with_leaf p b l)) (length (vehicles fleet))
      into = count_into (holds? p) (holds? (with_leaf p b l)) (length (vehicles fleet)) (length (vehicles fleet)) (λ i. i) (λ i g z. (g, held_larger (v.each i g) z)) (λ i j _ _ _ _ e. e)
