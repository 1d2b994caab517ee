-- LAWS. Places made one pair after another.
use mathlib.Core.Path.{◌≡◌, ◌∙◌}
use mathlib.Core.List.{List, [], ◌∷◌, ◌++◌}
use Prim.Native.Nat.{ℕ, zero, suc, ◌+◌, ◌-◌, ◌*◌, ◌≤◌, ◌<◌}
use native.Mathlib.Omega.{arith}
use native.Mathlib.Numerals.{add-one}
use lib.ListN.{length, get_or, take, drop, length-drop}
use lib.Seq.{take_at, take-suc, take-take, length-take-le}
use Rattle.terms.specs.Tree.{IsTree}
use Rattle.terms.specs.Fleet.{most_nodes}
use Rattle.terms.proofs.BeginningLaws.{beginning_tree}
use Rattle.matching.specs.Limits.{most_nodes_of_a_pattern}
use Rattle.rightmost.specs.PlaceList.{Places}
use Rattle.places.specs.Placing.{LongerInput}
use Rattle.expansion.specs.Levels.{PlacesAt}
use Rattle.expansion.proofs.LevelTables.{cut_places}
use Rattle.turned_places.specs.Making.{Made, TreeToPlace, OnwardInput, ListInput}

pub tree_before : {fleet nodes parents sizes : List ℕ} {n : ℕ} (k : ℕ) → TreeToPlace fleet nodes n parents sizes → 1 ≤ k → k ≤ n → IsTree (take k nodes)
tree_before zero t a b = absurd (omega arith)
tree_before {nodes = nodes} {n = n} (suc k) t a b = rw (take-take (suc k) n nodes b) at (beginning_tree (take n nodes) k (omega (arith, length-take-le n nodes (omega (arith, t.all_nodes, t.few)))) t.is_tree)

-- ONE PAIR AFTER ANOTHER (`place_onward`): the places of the first k pairs are listed
pub record OnwardTo (fleet nodes : List ℕ) (n : ℕ) (parents sizes list : List ℕ) (count k : ℕ) : Type 0 where
  pub of : TreeToPlace fleet nodes n parents sizes
  pub some : 1 ≤ k
  pub within : k ≤ n
  pub all : length list ≡ most_nodes
  pub made : Made fleet nodes k list count

pub onward_start : {fleet nodes parents sizes list : List ℕ} {from n count : ℕ} → OnwardInput fleet nodes from n parents sizes list count → OnwardTo fleet nodes n parents sizes list count from
onward_start i = record { of = i.of; some = i.some; within = i.within; all = i.all; made = i.made }

module _ {fleet nodes parents sizes list : List ℕ} {n count k : ℕ} (w : OnwardTo fleet nodes n parents sizes list count k) where
  pub onward_end : n ≤ k → Made fleet nodes n list count
  onward_end h = let e : k ≡ n = omega (arith, w.within) in rw e at w.made

  pub in_list : count ≤ length list
  in_list = omega (arith, w.all, w.made.few)

  module _ (h : k < n) where
    pub small : k < most_nodes_of_a_pattern
    small = omega (arith, w.of.few)

    longer : take (suc k) nodes ≡ take k nodes ++ get_or nodes k 0 ∷ []
    longer = take-suc nodes k 0 (omega (arith, w.of.all_nodes, small))

    -- `old` has the places of the first k pairs in front
    pub onward_input : (rest : List ℕ) {old new : List ℕ} → old ≡ take count list ++ rest → most_nodes ≤ length new → LongerInput (take k nodes) (get_or nodes k 0) fleet parents sizes (take count old) new
    onward_input rest {old} copied room = record {
      is_fleet = w.of.is_fleet;
      has_parents = w.of.has_parents;
      has_sizes = w.of.has_sizes;
      is_tree = tree_before k w.of w.some w.within;
      longer_tree = rw longer at (tree_before (suc k) w.of (omega arith) h);
      few = omega (arith, length-take-le k nodes (omega (arith, w.of.all_nodes, small)), small);
      places = rw copied_are w.made.are;
      room = room;
    }
      where
        copied_are : take count old ≡ take count list
        copied_are = rw copied (take_at (take count list) rest count (length-take-le count list in_list))

    pub onward_next : {list' : List ℕ} {r : ℕ} → length list' ≡ most_nodes → Places (take k nodes ++ get_or nodes k 0 ∷ []) fleet (take r list') × (r ≤ length fleet) → OnwardTo fleet nodes n parents sizes list' r (k + 1)
    onward_next l (p, few) = rw (add-one k) (record {
      of = w.of;
      some = omega arith;
      within = h;
      all = l;
      made = record { few = omega (arith, w.of.has_parents.room); are = rw longer p };
    })

-- THE TABLES (`list_places`)
module _ {fleet nodes parents sizes places lens : List ℕ} {unmoved n : ℕ} (i : ListInput fleet nodes unmoved n parents sizes places lens) where
  one_pair : unmoved ≡ 0 → take n nodes ≡ get_or nodes 0 0 ∷ []
  one_pair e = rw (i.none_unmoved e) (take-suc nodes 0 0 (omega (arith, i.of.all_nodes)))

  pub root_tree : unmoved ≡ 0 → IsTree (get_or nodes 0 0 ∷ [])
  root_tree e = rw (one_pair e) at i.of.is_tree

  pub root_made : {list' : List ℕ} {r : ℕ} → unmoved ≡ 0 → Places (get_or nodes 0 0 ∷ []) fleet (take r list') × (r ≤ length fleet) → Made fleet nodes n list' r
  root_made e (p, few) = record { few = omega (arith, i.of.has_parents.room); are = rw (one_pair e) p }

  module _ (more : ¬ (unmoved ≡ 0)) where
    at : PlacesAt fleet nodes places unmoved (get_or lens unmoved 0)
    at = i.placed (omega arith)

    pub unmoved_few : get_or lens unmoved 0 ≤ most_nodes
    unmoved_few = at.few

    pub unmoved_inside : unmoved * most_nodes + get_or lens unmoved 0 ≤ length places
    unmoved_inside = omega (arith, unmoved_few, i.all_places, i.fewer, i.of.few)

    pub listed_input : (rest : List ℕ) {list : List ℕ} → list ≡ take (unmoved * most_nodes + get_or lens unmoved 0 - unmoved * most_nodes) (drop (unmoved * most_nodes) places) ++ rest → length list ≡ most_nodes
        → OnwardInput fleet nodes unmoved n parents sizes list (get_or lens unmoved 0)
    listed_input rest {list} copied l = record {
      of = i.of;
      some = omega arith;
      within = omega (arith, i.fewer);
      all = l;
      made = record { few = unmoved_few; are = rw listed at.are };
    }
      where
        cut : List ℕ
        cut = take (unmoved * most_nodes + get_or lens unmoved 0 - unmoved * most_nodes) (drop (unmoved * most_nodes) places)

        cut_length : length cut ≡ get_or lens unmoved 0
        cut_length =
            let e : unmoved * most_nodes + get_or lens unmoved 0 - unmoved * most_nodes ≡ get_or lens unmoved 0 = omega arith in
            rw e (length-take-le (get_or lens unmoved 0) (drop (unmoved * most_nodes) places) (omega (arith, length-drop (unmoved * most_nodes) places, unmoved_inside)))

        listed : take (get_or lens unmoved 0) list ≡ take (get_or lens unmoved 0) (take most_nodes (drop (unmoved * most_nodes) places))
        listed = rw copied (take_at cut rest (get_or lens unmoved 0) cut_length) ∙ cut_places at
