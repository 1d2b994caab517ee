-- LAWS. The places of a level, made from those of the level before.
use mathlib.Core.Path.{◌≡◌, sym, ap, ◌∙◌}
use mathlib.Core.Logic.{◌⊎◌, inl, inr}
use mathlib.Core.List.{List, [], ◌∷◌, ◌++◌}
use Prim.Native.Nat.{ℕ, suc, ◌+◌, ◌-◌, ◌*◌, ◌≤◌, ◌<◌}
use native.Mathlib.Omega.{arith}
use native.Mathlib.Decide.{dec_lt}
use lib.ListN.{length, get_or, take, drop, length-drop}
use lib.Seq.{take_at, take-suc, take-take, length-take-le}
use Rattle.terms.specs.Tree.{IsTree}
use Rattle.terms.specs.Fleet.{most_nodes}
use Rattle.terms.proofs.BeginningLaws.{beginning_tree}
use Rattle.rightmost.specs.PlaceList.{Places}
use Rattle.places.specs.Placing.{LongerInput}
use Rattle.expansion.specs.Levels.{places_of, PlacesAt, EnterInput, Entered}
use Rattle.expansion.proofs.LevelTables.{pasted, pasted_there, pasted_other, pasted_length, cut_places}

apart_places : (k n : ℕ) → ¬ (k ≡ n) → (k * most_nodes + most_nodes ≤ n * most_nodes) ⊎ (n * most_nodes + most_nodes ≤ k * most_nodes)
apart_places k n d = go (dec_lt k n)
  where
    go : Dec (k < n) → (k * most_nodes + most_nodes ≤ n * most_nodes) ⊎ (n * most_nodes + most_nodes ≤ k * most_nodes)
    go (yes h) = inl (omega arith)
    go (no h) = inr (omega arith)

-- the part of level n, and the places of the level before, as the code cuts them out
abbrev pub cut_level : (places : List ℕ) (n : ℕ) → List ℕ
cut_level places n = take (n * most_nodes + most_nodes - n * most_nodes) (drop (n * most_nodes) places)

abbrev pub cut_before : (places : List ℕ) (n count : ℕ) → List ℕ
cut_before places n count = take ((n - 1) * most_nodes + count - (n - 1) * most_nodes) (drop ((n - 1) * most_nodes) places)

module _ {fleet nodes parents sizes places : List ℕ} {n count : ℕ} (i : EnterInput fleet nodes n parents sizes places count) where
  level_length : length (cut_level places n) ≡ most_nodes
  level_length =
      let e : n * most_nodes + most_nodes - n * most_nodes ≡ most_nodes = omega arith in
      rw e (length-take-le most_nodes (drop (n * most_nodes) places) (omega (arith, length-drop (n * most_nodes) places, i.all_places, i.room)))

  -- of one pair
  one_pair : n ≡ 1 → take n nodes ≡ get_or nodes 0 0 ∷ []
  one_pair e = rw e (take-suc nodes 0 0 (omega (arith, i.all_nodes)))

  pub root_tree : n ≡ 1 → IsTree (get_or nodes 0 0 ∷ [])
  root_tree e = rw (one_pair e) at i.in_form.is_tree

  -- of more
  module _ (more : ¬ (n ≡ 1)) where
    two : 2 ≤ n
    two = omega (arith, i.some)

    placed : PlacesAt fleet nodes places (n - 1) count
    placed = i.before two

    pub before_few : count ≤ most_nodes
    before_few = placed.few

    before_length : length (cut_before places n count) ≡ count
    before_length =
        let e : (n - 1) * most_nodes + count - (n - 1) * most_nodes ≡ count = omega arith in
        rw e (length-take-le count (drop ((n - 1) * most_nodes) places) (omega (arith, length-drop ((n - 1) * most_nodes) places, before_few, i.all_places, i.room)))

    more_pairs : take n nodes ≡ take (n - 1) nodes ++ get_or nodes (n - 1) 0 ∷ []
    more_pairs =
        let e : suc (n - 1) ≡ n = omega arith in
        ap (λ (k : ℕ). take k nodes) (sym e) ∙ take-suc nodes (n - 1) 0 (omega (arith, i.all_nodes, i.room))

    before_tree : IsTree (take (n - 1) nodes)
    before_tree =
        let e : n - 1 ≡ suc (n - 2) = omega arith in
        rw e
        (rw (take-take (suc (n - 2)) n nodes (omega arith)) at
        (beginning_tree (take n nodes) (n - 2) (omega (arith, length-take-le n nodes (omega (arith, i.all_nodes, i.room)))) i.in_form.is_tree))

    -- `old` has the places of the level before in front
    pub last_input : (rest : List ℕ) {old new : List ℕ} → old ≡ cut_before places n count ++ rest → most_nodes ≤ length new
        → LongerInput (take (n - 1) nodes) (get_or nodes (n - 1) 0) fleet parents sizes (take count old) new
    last_input rest {old} {new} copied room = record {
      is_fleet = i.is_fleet;
      has_parents = i.has_parents;
      has_sizes = i.has_sizes;
      is_tree = before_tree;
      longer_tree = rw more_pairs at i.in_form.is_tree;
      few = omega (arith, length-take-le (n - 1) nodes (omega (arith, i.all_nodes, i.room)), i.room);
      places = rw copied_are placed.are;
      room = room;
    }
      where
        copied_are : take count old ≡ take count (places_of places (n - 1))
        copied_are = rw copied (take_at (cut_before places n count) rest count before_length) ∙ cut_places placed

  -- the places are made
  pub places_made : (ys : List ℕ) {r : ℕ} → length ys ≡ length (cut_level places n) → Places (take n nodes) fleet (take r ys) → r ≤ length fleet
      → Entered fleet nodes n places (pasted places ys (n * most_nodes) (n * most_nodes + most_nodes - n * most_nodes)) r
  places_made ys {r} long p few =
      let size : n * most_nodes + most_nodes - n * most_nodes ≡ most_nodes = omega arith in
      rw size
      (record {
        all_places = pasted_length places ys (n * most_nodes) most_nodes e room;
        made = record { few = omega (arith, i.has_parents.room); are = rw (pasted_there places ys (n * most_nodes) most_nodes e (omega (arith, room))) p };
        others = λ k d. pasted_other places ys (n * most_nodes) most_nodes (k * most_nodes) e (omega (arith, room)) (apart_places k n d);
      })
    where
      e : length ys ≡ most_nodes
      e = long ∙ level_length

      room : n * most_nodes + most_nodes ≤ length places
      room = omega (arith, i.all_places, i.room)

  pub root_made : (ys : List ℕ) {r : ℕ} → n ≡ 1 → length ys ≡ length (cut_level places n) → Places (get_or nodes 0 0 ∷ []) fleet (take r ys) × (r ≤ length fleet)
      → Entered fleet nodes n places (pasted places ys (n * most_nodes) (n * most_nodes + most_nodes - n * most_nodes)) r
  root_made ys e long (p, few) = places_made ys long (rw (one_pair e) p) few

  pub last_made : (ys : List ℕ) {r : ℕ} → ¬ (n ≡ 1) → length ys ≡ length (cut_level places n) → Places (take (n - 1) nodes ++ get_or nodes (n - 1) 0 ∷ []) fleet (take r ys) × (r ≤ length fleet)
      → Entered fleet nodes n places (pasted places ys (n * most_nodes) (n * most_nodes + most_nodes - n * most_nodes)) r
  last_made ys m long (p, few) = places_made ys long (rw (more_pairs m) p) few
