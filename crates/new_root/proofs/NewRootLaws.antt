-- LAWS. The labels above the root's places, noted place by place.
use mathlib.Core.Path.{◌≡◌, refl, sym, ap, ◌∙◌}
use mathlib.Core.Logic.{◌⊎◌, inl, inr, ⊎_elim}
use mathlib.Core.List.{List}
use Prim.Native.Nat.{ℕ, zero, suc, ◌+◌, ◌≤◌, ◌<◌}
use native.Mathlib.Omega.{arith}
use native.Mathlib.Numerals.{add-one}
use lib.ListN.{length, get_or, replicate, length-replicate}
use Rattle.terms.specs.Tree.{depthAt, label_at, IsTree}
use Rattle.terms.specs.Fleet.{vehicles, most_trees}
use Rattle.rightmost.specs.Ends.{LastPlace, last_of, Up}
use Rattle.rightmost.specs.PlaceList.{Tally}
use Rattle.rightmost.specs.Vehicles.{VehiclesNumbered}
use Rattle.rightmost.proofs.UpLaws.{up_unique, up_depth, up_inside}
use Rattle.rightmost.proofs.GatherLaws.{place_inside}
use Rattle.rightmost.proofs.TallyLaws.{tally_none, tally_few, tally_at_most}
use Rattle.index.proofs.IndexLaws.{fleet_pair}
use Rattle.noting.specs.Noting.{Room, AllNoted}
use Rattle.noting.proofs.NoteLaws.{some_none, room_of, all_noted_same}
use Rattle.noting.proofs.GatherLaws.{tally_step, number_in}
use Rattle.leftover.specs.Leftover.{Most}
use Rattle.turned.specs.AboveRoot.{AboveRoot, RootNotedFrom}
use Rattle.turned.proofs.RootLaws.{new_root_candidate, root_noted_exactly, root_noted_none, root_noted_still, root_noted_now, root_noted_next, root_noted_past, root_support}
use Rattle.new_root.specs.NewRoot.{LabelAbove, RootToNote, RootInput, RootReaches}

-- ONE PLACE (`note_above`)
module _ {fleet parents : List ℕ} {place depth number : ℕ} {counts last : List ℕ} (i : RootToNote fleet parents place depth number counts last) where
  -- the ancestor is a vehicle's root
  pub none_above : depthAt fleet place ≤ depth → AllNoted (LabelAbove fleet depth place) number counts last counts last
  none_above h = record { some = some_none; all = λ x z. absurd (omega (arith, up_depth z.up)) }

  module _ {node : ℕ} (u : Up fleet node (depth + 1) place) where
    up : Up fleet node (suc depth) place
    up = rw (add-one depth) at u

    above_label : (x : ℕ) → x ≡ label_at fleet node → LabelAbove fleet depth place x
    above_label x e = record { node = node; up = up; has_label = sym e }

    pub above_room : Room (λ x. x ≡ label_at fleet node) number counts last
    above_room = room_of above_label i.room

    pub above_noted : {counts' last' : List ℕ} → AllNoted (λ x. x ≡ label_at fleet node) number counts last counts' last' → AllNoted (LabelAbove fleet depth place) number counts last counts' last'
    above_noted n = all_noted_same (λ x. (above_label x, λ z. sym z.has_label ∙ ap (label_at fleet) (up_unique z.up up))) n

-- ALL PLACES (`root_reaches`): the first i are done
pub record RootsTo (p : List ℕ) (need : ℕ) (fleet parents numbers places counts last : List ℕ) (most i : ℕ) : Type 0 where
  pub input : RootInput p need fleet parents numbers places
  pub tallied : (l : ℕ) → Tally (RootNotedFrom p l fleet numbers places i) (suc (length (vehicles fleet))) (get_or last l 0) (get_or counts l 0)
  pub labels : (l : ℕ) → 1 ≤ get_or counts l 0 → (1 ≤ l) × (l ≤ 999)
  pub largest : Most counts most
  pub all_counts : length counts ≡ 1000
  pub all_last : length last ≡ 1000
  pub within : i ≤ length places

zero_at : (n k : ℕ) → ◌≡◌ {A = ℕ} (get_or (replicate n 0) k 0) 0
zero_at zero k = refl
zero_at (suc n) zero = refl
zero_at (suc n) (suc k) = zero_at n k

pub roots_start : {p fleet parents numbers places : List ℕ} {need : ℕ} → RootInput p need fleet parents numbers places → RootsTo p need fleet parents numbers places (replicate 1000 0) (replicate 1000 0) 0 0
roots_start {fleet = fleet} i = record {
  input = i;
  tallied = λ l. rw (zero_at 1000 l) (tally_none (suc (length (vehicles fleet))) root_noted_none);
  labels = λ l h. absurd (omega (arith, zero_at 1000 l));
  largest = record { reached = inl refl; none_more = λ l. omega (arith, zero_at 1000 l) };
  all_counts = length-replicate {A = ℕ} 1000 0;
  all_last = length-replicate {A = ℕ} 1000 0;
  within = omega arith;
}

module _ {p fleet parents numbers places counts last : List ℕ} {need most i : ℕ} (w : RootsTo p need fleet parents numbers places counts last most i) where
  tree : IsTree p
  tree = w.input.is_tree

  nb : VehiclesNumbered fleet numbers
  nb = w.input.has_numbers.are

  few : (l : ℕ) → get_or counts l 0 ≤ most_trees
  few l = omega (arith, tally_few (w.tallied l), w.input.is_fleet.trees)

  module _ (h : i < length places) where
    at : LastPlace p fleet (get_or places i 0)
    at = w.input.listed.each i h

    pub next_inside : get_or places i 0 < length fleet
    next_inside = place_inside tree at

    label_in : {l : ℕ} → LabelAbove fleet (depthAt p (last_of p)) (get_or places i 0) l → (1 ≤ l) × (l ≤ 999)
    label_in z = (omega (arith, z.has_label, (fleet_pair w.input.is_fleet z.node (up_inside z.up next_inside)).label_from_1), omega (arith, z.has_label))

    pub next_input : RootToNote fleet parents (get_or places i 0) (depthAt p (last_of p)) (get_or numbers (get_or places i 0) 0) counts last × Most counts most
    next_input = (
      record {
        is_fleet = w.input.is_fleet;
        has_parents = w.input.has_parents;
        inside = next_inside;
        room = record {
          in_counts = λ l z. omega (arith, (label_in z).1, w.all_counts);
          in_last = λ l z. omega (arith, (label_in z).1, w.all_last);
          few = λ l _ _. few l;
        };
      },
      w.largest,
    )

    pub roots_next : {counts' last' : List ℕ} {most' : ℕ} → AllNoted (LabelAbove fleet (depthAt p (last_of p)) (get_or places i 0)) (get_or numbers (get_or places i 0) 0) counts last counts' last' × Most counts' most'
        → RootsTo p need fleet parents numbers places counts' last' most' (i + 1)
    roots_next {counts'} {last'} {most'} (n, m) = rw (add-one i) (record {
      input = w.input;
      tallied = tallied;
      labels = λ l q. ⊎_elim (λ z. w.labels l (omega (arith, z.0))) (λ z. label_in z.0) (n.some.each l);
      largest = m;
      all_counts = n.some.all_counts ∙ w.all_counts;
      all_last = n.some.all_last ∙ w.all_last;
      within = h;
    })
      where
        number : ℕ
        number = get_or numbers (get_or places i 0) 0

        tallied : (l : ℕ) → Tally (RootNotedFrom p l fleet numbers places (suc i)) (suc (length (vehicles fleet))) (get_or last' l 0) (get_or counts' l 0)
        tallied l =
            let k = number_in w.input.is_fleet w.input.has_numbers (get_or places i 0) next_inside in
            tally_step k.0 k.1 root_noted_still new (root_noted_past nb tree w.input.listed i h) (⊎_elim inl (λ z. inr (root_noted_now i (here z.0), z.1)) (n.some.each l)) (w.tallied l)
          where
            here : LabelAbove fleet (depthAt p (last_of p)) (get_or places i 0) l → AboveRoot p l fleet (get_or places i 0)
            here z = record { last_place = at; node = z.node; up = z.up; has_label = z.has_label }

            new : (v : ℕ) → RootNotedFrom p l fleet numbers places (suc i) v → RootNotedFrom p l fleet numbers places i v ⊎ ((v ≡ number) × (get_or last' l 0 ≡ number))
            new v z = ⊎_elim inl (λ y. inr (y.1, n.all l (record { node = y.0.node; up = y.0.up; has_label = y.0.has_label }))) (root_noted_next i v z)

  -- a label is counted often enough: the count is no more than the support
  pub root_reached : need ≤ most → RootReaches fleet need p
  root_reached h = ⊎_elim (λ e. absurd (none e)) (λ z. found z.0 z.1) w.largest.reached
    where
      none : most ≡ 0 → ⊥
      none e = omega (arith, w.input.from_1)

      found : (l : ℕ) → get_or counts l 0 ≡ most → RootReaches fleet need p
      found l e =
          let k = w.labels l (omega (arith, w.input.from_1)) in
          let c = new_root_candidate tree k.0 k.1 in
          record {
            label = l;
            from_1 = k.0;
            to_999 = k.1;
            enough = omega (arith, tally_at_most fleet _ (λ v q z. (root_noted_exactly tree c (nb.each v q)).1 (record { place = get_or places z.index 0; above_root = z.above_root; in_vehicle = z.in_vehicle })) (w.tallied l));
          }

  -- none is, and all places are done
  pub none_reached : most < need → length places ≤ i → ¬ RootReaches fleet need p
  none_reached h q z =
      let e : i ≡ length places = omega (arith, w.within) in
      omega (arith, z.enough, root_support nb tree (new_root_candidate tree z.from_1 z.to_999) w.input.listed (rw e at (w.tallied z.label)), w.largest.none_more z.label)
