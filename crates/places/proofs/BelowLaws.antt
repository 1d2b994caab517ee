-- LAWS. The pattern goes on below its last node: the new places are the children of the old ones with the new label.
use mathlib.Core.Path.{◌≡◌, refl, sym, ap, ◌∙◌}
use mathlib.Core.Logic.{◌≢◌}
use mathlib.Core.List.{List, [], ◌∷◌, ◌++◌}
use Prim.Native.Nat.{ℕ, suc, ◌+◌, ◌-◌, ◌*◌, ◌/◌, ◌%◌, ◌≤◌, ◌<◌}
use native.Mathlib.Omega.{arith}
use native.Mathlib.Numerals.{add-one}
use lib.ListN.{length, get_or, take, length-append}
use lib.Seq.{length-take-le}
use mir.Syntax.{w16, w64}
use mir.Val.{Fits}
use Rattle.terms.specs.Tree.{depthAt, label_at, IsTree}
use Rattle.terms.specs.Fleet.{most_nodes}
use Rattle.rightmost.specs.Ends.{LastPlace, last_of, Up, itself, IsChild, NewChild, Seated}
use Rattle.rightmost.specs.PlaceList.{Places, Kids, Rising, steps_to, PlacesFrom}
use Rattle.rightmost.proofs.UpLaws.{up_unique}
use Rattle.rightmost.proofs.BranchLaws.{placed_maps, branch_last, last_inside}
use Rattle.rightmost.proofs.LongerLaws.{new_child_of, new_child_at}
use Rattle.rightmost.proofs.GatherLaws.{place_inside}
use Rattle.rightmost.proofs.PlaceOrder.{before_irrefl, few_places}
use Rattle.rightmost.proofs.PlaceLists.{from_more, from_all}
use Rattle.index.proofs.IndexLaws.{fleet_pair}
use Rattle.places.specs.Placing.{LongerInput}
use Rattle.places.specs.PlaceSteps.{ChildrenInput, ChildrenPut, BelowInput}
use Rattle.places.proofs.PlaceRoom.{room}

-- whether x comes below the last node
module _ {before : List ℕ} {x : ℕ} {fleet parents sizes old new : List ℕ} (i : LongerInput before x fleet parents sizes old new) where
  pub below_input : depthAt before (length before - 1) < x / 1000 → BelowInput before x fleet sizes old new
  below_input h = record { is_fleet = i.is_fleet; has_sizes = i.has_sizes; new_child = child; few = omega (arith, i.few); places = i.places; room = i.room }
    where
      parent : (b : ℕ) × NewChild before x b
      parent = new_child_of before x i.is_tree i.longer_tree

      child : NewChild before x (last_of before)
      child = new_child_at before x (depthAt before (last_of before)) (last_of before) i.is_tree parent.1.is_pair (branch_last before i.is_tree) (omega (arith, parent.1.one_deeper, parent.1.on_branch.no_deeper))

-- the last node has no children: nobody asks for a seat
all_kids : {p q : List ℕ} {d l : ℕ} {kids : List ℕ} → IsTree p → Rising q d l kids → Kids p q (last_of p) d l kids
all_kids {p} {q} {d} {l} t r = record { each = λ i h. (r.each i h, seated _); none_missing = λ w c _. r.none_missing w c; rising = r.rising }
  where
    none : (c : ℕ) → ¬ IsChild p (last_of p) l c
    none c k = omega (arith, k.0.before, k.0.inside)

    seated : (w : ℕ) → Seated p q (last_of p) d l w
    seated w = record { to = λ c. c; inside = λ c k. absurd (none c k); edge = λ c k. absurd (none c k); inj = λ c _ k. absurd (none c k) }

pub record BelowTo (before : List ℕ) (x : ℕ) (fleet sizes old new₀ : List ℕ) (step : ℕ) (new : List ℕ) (len i : ℕ) : Type 0 where
  pub input : BelowInput before x fleet sizes old new₀
  pub is_step : step ≡ x - get_or before (length before - 1) 0
  pub within : i ≤ length old
  pub same_length : length new ≡ length new₀
  pub few : len ≤ length fleet
  pub from : PlacesFrom before x (last_of before) fleet old i (take len new)

module _ {before : List ℕ} {x : ℕ} {fleet sizes old new : List ℕ} (i : BelowInput before x fleet sizes old new) where
  pub last_doubled : Fits w64 ((length before - 1) * 2)
  last_doubled = omega (arith, i.few)

  pub last_in : length before - 1 < length before
  last_in = last_inside before i.new_child.is_tree

  pub heavier : get_or before (length before - 1) 0 ≤ x
  heavier = omega (arith, i.new_child.one_deeper)

module _ {before : List ℕ} {x : ℕ} {fleet sizes old new₀ : List ℕ} {step : ℕ} {new : List ℕ} {len i : ℕ} (r : BelowTo before x fleet sizes old new₀ step new len i) where
  e : NewChild before x (last_of before)
  e = r.input.new_child

  module _ (h : i < length old) where
    abbrev d : ℕ
    d = get_or old i 0

    place : LastPlace before fleet d
    place = r.input.places.each i h

    pub old_in : d < length fleet
    old_in = place_inside e.is_tree place

    pub place_few : d < most_nodes
    place_few = omega (arith, old_in, r.input.is_fleet.nodes)

    pub old_few : i < most_nodes
    old_few = omega (arith, few_places fleet (depthAt before (last_of before)) (length fleet) old r.input.places.in_order (λ j k. place_inside e.is_tree (r.input.places.each j k)), r.input.is_fleet.nodes)

    -- the pair of the children, by the pair of the place
    label : label_at fleet d ≡ label_at before (length before - 1)
    label = let m = placed_maps place in sym (m.embeds.labels (last_of before) (last_inside before e.is_tree) ∙ ap (label_at fleet) m.there)

    pub pair_fits : Fits w16 (get_or fleet d 0 + step)
    pair_fits = omega (arith, (fleet_pair r.input.is_fleet d old_in).depth_to_15, r.is_step, e.one_deeper, label)

    pair_label : (get_or fleet d 0 + step) % 1000 ≡ x % 1000
    pair_label = omega (arith, r.is_step, e.one_deeper, label)

    no_steps : steps_to before (last_of before) ≡ 0
    no_steps = omega arith

    up : Up fleet d (steps_to before (last_of before)) d
    up = rw no_steps (itself refl)

    other : (m c : ℕ) → suc m ≡ i → Up fleet c (steps_to before (last_of before)) (get_or old m 0) → c ≢ d
    other m c z u same = before_irrefl (rw (sym (own u) ∙ same) at (r.input.places.in_order m i (omega arith) h))
      where
        own : Up fleet c (steps_to before (last_of before)) (get_or old m 0) → c ≡ get_or old m 0
        own v = up_unique (rw no_steps at v) (itself refl)

    len_in : length (take len new) ≡ len
    len_in = length-take-le len new (omega (arith, r.few, r.same_length, r.input.room, r.input.is_fleet.nodes))

    pub children_input : ChildrenInput fleet sizes d (get_or fleet d 0 + step) new len
    children_input = record {
      child = record { is_fleet = r.input.is_fleet; has_sizes = r.input.has_sizes; inside = old_in; one_deeper = omega (arith, r.is_step, e.one_deeper, label) };
      few = rw pair_label (omega (arith, room e r.input.places h up other r.from, len_in, r.input.is_fleet.nodes));
      room = omega (arith, r.same_length, r.input.room);
    }

    pub below_more : {new' : List ℕ} {end : ℕ} → ChildrenPut fleet d ((get_or fleet d 0 + step) % 1000) new len new' end → BelowTo before x fleet sizes old new₀ step new' end (i + 1)
    below_more {new'} {end} z = record {
      input = r.input;
      is_step = r.is_step;
      within = omega arith;
      same_length = c.behind.same_length ∙ r.same_length;
      few = omega (arith, few_places fleet _ (length fleet) (take len new ++ c.kids) grown.in_order (λ m q. (grown.each m q).4.0.inside), length-append (take len new) c.kids, len_in, c.behind.as_many);
      from = rw (add-one i, c.behind.put) grown;
    }
      where
        c : ChildrenPut fleet d (x % 1000) new len new' end
        c = rw pair_label at z

        grown : PlacesFrom before x (last_of before) fleet old (suc i) (take len new ++ c.kids)
        grown = from_more d e r.input.places h up other (all_kids e.is_tree c.all) r.from

  pub below_end : length old ≤ i → Places (before ++ x ∷ []) fleet (take len new) × (len ≤ length fleet)
  below_end h = let z : i ≡ length old = omega (arith, r.within) in (from_all e r.input.places (rw z at r.from), r.few)
