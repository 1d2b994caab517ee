-- LAWS. The test: what its parts are given, and what they tell together.
use mathlib.Core.Path.{◌≡◌, refl, sym, ap, ◌∙◌}
use mathlib.Core.Bool.{Bool, true, false, true≢false}
use mathlib.Core.Logic.{◌⊎◌, inl, inr, ⊎_elim}
use mathlib.Core.List.{List, [], ◌∷◌, ◌++◌}
use Prim.Native.Nat.{ℕ, suc, ◌+◌, ◌-◌, ◌/◌, ◌≤◌, ◌<◌}
use native.Mathlib.Omega.{arith}
use native.Mathlib.Decide.{dec_lt, ℕ_discrete}
use native.Mathlib.Numerals.{add-one}
use lib.ListN.{length, get_or, take, drop, length-drop, length-append}
use lib.Seq.{take_at, take-take, length-take-le, get_or-take}
use Rattle.terms.specs.Tree.{depthAt}
use Rattle.terms.specs.Tells.{Tells}
use Rattle.fleet.proofs.TellsLaws.{told_yes, told_no}
use Rattle.matching.specs.Limits.{most_nodes_of_a_pattern}
use Rattle.occurrence.specs.Support.{whole_support}
use Rattle.supertrees.specs.Supertree.{LargerReaches}
use Rattle.supertrees.specs.Candidate.{with_root}
use Rattle.rightmost.specs.Ends.{last_of, NewChild}
use Rattle.rightmost.proofs.LongerLaws.{longer}
use Rattle.turned.specs.Turned.{TurnedToEnd, IsLeaf}
use Rattle.turned.proofs.TurnedLaws.{turned_itself, turned_larger, turned_equal}
use Rattle.turned.proofs.RootLaws.{new_root_larger}
use Rattle.turned.proofs.LeafLaws.{none_reaches}
use Rattle.turning.specs.Turning.{LeafTurned}
use Rattle.new_root.specs.NewRoot.{RootReaches, RootInput}
use Rattle.turned_places.specs.Making.{Made, ListInput}
use Rattle.additions.specs.Additions.{LeafReaches, LeafInput}
use Rattle.blanket.specs.Blanket.{ReachesInput, Reached, NotReached, EqualLeaves, LeafTold, OthersTold}

-- the leaves from this one on, but for the last node, are done
pub record OthersFrom (fleet nodes : List ℕ) (n need leaf : ℕ) : Type 0 where
  pub within : leaf < n
  pub none : (k : ℕ) → leaf ≤ k → suc k < n → IsLeaf (take n nodes) k → NotReached fleet need (take n nodes) k

module _ {fleet nodes parents numbers sizes places lens : List ℕ} {n need : ℕ} (i : ReachesInput fleet nodes n need parents numbers sizes places lens) where
  pub pattern_length : length (take n nodes) ≡ n
  pattern_length = length-take-le n nodes (omega (arith, i.all_nodes, i.few))

  pub some_pairs : 1 ≤ n
  some_pairs = omega (arith, pattern_length, i.is_tree.has_root)

  -- THE PATTERN AS IT STANDS (`first_reaches`)
  pub first_input : ListInput fleet nodes (n - 1) n parents sizes places lens
  first_input = record {
    of = record { is_fleet = i.indexed.is_fleet; has_parents = i.indexed.has_parents; has_sizes = i.indexed.has_sizes; all_nodes = i.all_nodes; few = i.few; is_tree = i.is_tree };
    fewer = omega (arith, some_pairs);
    none_unmoved = λ e. omega (arith, some_pairs);
    all_places = i.all_places;
    all_lens = i.all_lens;
    placed = λ h. i.placed (n - 1) h (omega (arith, some_pairs));
  }

  pub leaf_input : {list : List ℕ} {count : ℕ} → Made fleet nodes n list count → LeafInput (take n nodes) fleet parents numbers sizes (take count list) need
  leaf_input m = record { is_tree = i.is_tree; few = omega (arith, pattern_length, i.few); indexed = i.indexed; listed = m.are; from_1 = i.from_1 }

  pub root_input : {list : List ℕ} {count : ℕ} → Made fleet nodes n list count → RootInput (take n nodes) need fleet parents numbers (take count list)
  root_input m = record { is_tree = i.is_tree; is_fleet = i.indexed.is_fleet; has_parents = i.indexed.has_parents; has_numbers = i.indexed.has_numbers; listed = m.are; from_1 = i.from_1 }

  pub first_none : (b : Bool) → ¬ LeafReaches fleet need (take n nodes) → Tells b (RootReaches fleet need (take n nodes)) → Tells b (LeafReaches fleet need (take n nodes) ⊎ RootReaches fleet need (take n nodes))
  first_none true k t = inr t
  first_none false k t = ⊎_elim k t

  -- A NODE (`turned_reaches`) that has a child is no leaf
  pub inner_told : {leaf : ℕ} → suc leaf < n → get_or nodes leaf 0 / 1000 < get_or nodes (leaf + 1) 0 / 1000 → LeafTold fleet need (take n nodes) leaf false
  inner_told {leaf} h d = record { yes_told = λ e. absurd (true≢false (sym e)); no_told = λ _ l. absurd (omega (arith, l.none_below (omega (arith, pattern_length)), d, at leaf (omega arith), at (suc leaf) h, add leaf)) }
    where
      at : (k : ℕ) → k < n → get_or (take n nodes) k 0 ≡ get_or nodes k 0
      at k q = get_or-take n nodes k 0 q

      add : (k : ℕ) → get_or nodes (k + 1) 0 ≡ get_or nodes (suc k) 0
      add k = let e : k + 1 ≡ suc k = omega arith in ap (λ (m : ℕ). get_or nodes m 0) e

  -- that has none is one
  pub is_leaf : {leaf : ℕ} → suc leaf < n → get_or nodes (leaf + 1) 0 / 1000 ≤ get_or nodes leaf 0 / 1000 → IsLeaf (take n nodes) leaf
  is_leaf {leaf} h d = record { inside = omega (arith, pattern_length); none_below = λ _. omega (arith, d, at leaf (omega arith), at (suc leaf) h, add leaf) }
    where
      at : (k : ℕ) → k < n → get_or (take n nodes) k 0 ≡ get_or nodes k 0
      at k q = get_or-take n nodes k 0 q

      add : (k : ℕ) → get_or nodes (k + 1) 0 ≡ get_or nodes (suc k) 0
      add k = let e : k + 1 ≡ suc k = omega arith in ap (λ (m : ℕ). get_or nodes m 0) e

  -- the array with the turned pattern in front
  module _ {leaf unmoved : ℕ} {turned : List ℕ} (h : suc leaf < n) (t : LeafTurned (take n nodes) leaf turned unmoved) where
    turned_length : length turned ≡ n
    turned_length = t.as_long ∙ pattern_length

    front : take n (turned ++ drop n nodes) ≡ turned
    front = take_at turned (drop n nodes) n turned_length

    pub array_length : length (turned ++ drop n nodes) ≡ most_nodes_of_a_pattern
    array_length = omega (arith, length-append turned (drop n nodes), length-drop n nodes, turned_length, i.all_nodes, i.few)

    pub turned_input : ListInput fleet (turned ++ drop n nodes) unmoved n parents sizes places lens
    turned_input = record {
      of = record {
        is_fleet = i.indexed.is_fleet;
        has_parents = i.indexed.has_parents;
        has_sizes = i.indexed.has_sizes;
        all_nodes = array_length;
        few = i.few;
        is_tree = rw front t.to_end.is_tree;
      };
      fewer = omega (arith, t.to_leaf);
      none_unmoved = λ e. absurd (omega (arith, t.root_unmoved (omega (arith, pattern_length))));
      all_places = i.all_places;
      all_lens = i.all_lens;
      placed = λ q. let p = i.placed unmoved q (omega (arith, t.to_leaf)) in record { few = p.few; are = rw beginning p.are };
    }
      where
        beginning : take unmoved (turned ++ drop n nodes) ≡ take unmoved nodes
        beginning = sym (take-take unmoved n (turned ++ drop n nodes) (omega (arith, t.to_leaf))) ∙ ap (take unmoved) front ∙ t.beginning ∙ take-take unmoved n nodes (omega (arith, t.to_leaf))

    pub turned_leaf_input : {list : List ℕ} {count : ℕ} → Made fleet (turned ++ drop n nodes) n list count → LeafInput (take n (turned ++ drop n nodes)) fleet parents numbers sizes (take count list) need
    turned_leaf_input m = record { is_tree = rw front t.to_end.is_tree; few = omega (arith, ap length front, turned_length, i.few); indexed = i.indexed; listed = m.are; from_1 = i.from_1 }

    pub turned_told : (b : Bool) → Tells b (LeafReaches fleet need (take n (turned ++ drop n nodes))) → LeafTold fleet need (take n nodes) leaf b
    turned_told b k = record {
      yes_told = λ e. record { turned = turned; to_end = t.to_end; reaches = rw front at (told_yes b k e) };
      no_told = λ e _. record { turned = turned; to_end = t.to_end; none = λ z. told_no b k e (rw front z) };
    }

  -- ALL OTHER LEAVES (`others_reach`)
  pub others_start : OthersFrom fleet nodes n need (n - 1)
  others_start = record { within = omega (arith, some_pairs); none = λ k a b _. absurd (omega arith) }

  pub others_next : {leaf : ℕ} → OthersFrom fleet nodes n need leaf → 0 < leaf → (IsLeaf (take n nodes) (leaf - 1) → NotReached fleet need (take n nodes) (leaf - 1)) → OthersFrom fleet nodes n need (leaf - 1)
  others_next {leaf} w h l = record { within = omega (arith, w.within); none = λ k a b q. go k b q (ℕ_discrete k (leaf - 1)) a }
    where
      go : (k : ℕ) → suc k < n → IsLeaf (take n nodes) k → Dec (k ≡ leaf - 1) → leaf - 1 ≤ k → NotReached fleet need (take n nodes) k
      go k b q (yes e) a = rw e (l (rw e at q))
      go k b q (no e) a = w.none k (omega arith) b q

  -- of equal leaves what is told of the second holds of the first
  pub others_equal : {leaf : ℕ} → OthersFrom fleet nodes n need leaf → 0 < leaf → EqualLeaves nodes n (leaf - 1) → OthersFrom fleet nodes n need (leaf - 1)
  others_equal {leaf} w h q = others_next w h (λ _. let z = w.none leaf (omega arith) (omega (arith, q.not_last)) next_leaf in record { turned = z.turned; to_end = turned_equal i.is_tree (omega (arith, q.not_last, pattern_length)) same next_leaf' (rw here z.to_end); none = z.none })
    where
      here : suc (leaf - 1) ≡ leaf
      here = omega arith

      at : (k : ℕ) → k < n → get_or (take n nodes) k 0 ≡ get_or nodes k 0
      at k b = get_or-take n nodes k 0 b

      same : get_or (take n nodes) (leaf - 1) 0 ≡ get_or (take n nodes) (suc (leaf - 1)) 0
      same = at (leaf - 1) (omega (arith, q.not_last)) ∙ q.equal ∙ ap (λ (k : ℕ). get_or nodes k 0) (add-one (leaf - 1)) ∙ sym (at (suc (leaf - 1)) (omega (arith, q.not_last)))

      low : depthAt (take n nodes) (suc leaf) ≤ depthAt (take n nodes) leaf
      low =
          let two : leaf - 1 + 2 ≡ suc leaf = omega arith in
          let one : leaf - 1 + 1 ≡ leaf = omega arith in
          omega (arith, q.no_deeper, ap (depthAt nodes) two, ap (λ (k : ℕ). get_or nodes k 0 / 1000) one, ap (λ (x : ℕ). x / 1000) q.equal, ap (λ (x : ℕ). x / 1000) (at (suc leaf) (omega (arith, q.not_last))), ap (λ (x : ℕ). x / 1000) (at leaf (omega (arith, q.not_last))))

      next_leaf : IsLeaf (take n nodes) leaf
      next_leaf = record { inside = omega (arith, q.not_last, pattern_length); none_below = λ _. low }

      next_leaf' : IsLeaf (take n nodes) (suc (leaf - 1))
      next_leaf' = rw here next_leaf

  larger : {leaf : ℕ} → Reached fleet need (take n nodes) leaf → LargerReaches (whole_support fleet) need (take n nodes)
  larger z = record { tree = z.turned ++ z.reaches.pair ∷ []; larger = turned_larger i.is_tree z.to_end z.reaches.new_child; enough = z.reaches.enough }

  pub others_yes : {leaf : ℕ} (b : Bool) → LeafTold fleet need (take n nodes) leaf b → b ≡ true → OthersTold fleet need (take n nodes) true
  others_yes b l e = record { yes_told = λ _. larger (l.yes_told e); no_told = λ q. absurd (true≢false q) }

  pub others_no : {leaf : ℕ} → OthersFrom fleet nodes n need leaf → leaf ≤ 0 → OthersTold fleet need (take n nodes) false
  others_no w h = record { yes_told = λ q. absurd (true≢false (sym q)); no_told = λ _ k b l. w.none k (omega arith) (omega (arith, pattern_length)) l }

  -- TOGETHER (`reaches`)
  as_it_stands : TurnedToEnd (take n nodes) (last_of (take n nodes)) (take n nodes)
  as_it_stands = turned_itself i.is_tree (omega (arith, i.is_tree.has_root))

  pub first_yes : (b : Bool) → Tells b (LeafReaches fleet need (take n nodes) ⊎ RootReaches fleet need (take n nodes)) → b ≡ true → LargerReaches (whole_support fleet) need (take n nodes)
  first_yes b t e = ⊎_elim (λ z. larger (record { turned = take n nodes; to_end = as_it_stands; reaches = z })) (λ z. record { tree = _; larger = new_root_larger i.is_tree z.from_1 z.to_999; enough = z.enough }) (told_yes b t e)

  pub together : (b : Bool) → Tells b (LeafReaches fleet need (take n nodes) ⊎ RootReaches fleet need (take n nodes)) → b ≡ false → (r : Bool) → OthersTold fleet need (take n nodes) r → Tells r (LargerReaches (whole_support fleet) need (take n nodes))
  together b t e true o = o.yes_told refl
  together b t e false o = none_reaches i.indexed.is_fleet i.is_tree i.from_1 (λ l a z. few l a z (dec_lt (whole_support fleet (with_root (take n nodes) l)) need)) (λ leaf l. at leaf l (ℕ_discrete leaf (last_of (take n nodes))))
    where
      none : ¬ (LeafReaches fleet need (take n nodes) ⊎ RootReaches fleet need (take n nodes))
      none = told_no b t e

      few : (l : ℕ) → 1 ≤ l → l ≤ 999 → Dec (whole_support fleet (with_root (take n nodes) l) < need) → whole_support fleet (with_root (take n nodes) l) < need
      few l a z (yes h) = h
      few l a z (no h) = absurd (none (inr (record { label = l; from_1 = a; to_999 = z; enough = omega arith })))

      fewer : (turned : List ℕ) → ¬ LeafReaches fleet need turned → (x c : ℕ) → NewChild turned x c → whole_support fleet (longer turned x) < need
      fewer turned k x c q = go (dec_lt (whole_support fleet (longer turned x)) need)
        where
          go : Dec (whole_support fleet (longer turned x) < need) → whole_support fleet (longer turned x) < need
          go (yes h) = h
          go (no h) = absurd (k (record { pair = x; node = c; new_child = q; enough = omega arith }))

      at : (leaf : ℕ) → IsLeaf (take n nodes) leaf → Dec (leaf ≡ last_of (take n nodes)) → (turned : List ℕ) × TurnedToEnd (take n nodes) leaf turned × ((x c : ℕ) → NewChild turned x c → whole_support fleet (longer turned x) < need)
      at leaf l (yes q) = (take n nodes, rw q as_it_stands, fewer (take n nodes) (λ z. none (inl z)))
      at leaf l (no q) = let z = o.no_told refl leaf (omega (arith, l.inside)) l in (z.turned, z.to_end, fewer z.turned z.none)
