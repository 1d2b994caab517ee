-- LAWS. The nodes with a label, as they are listed: group by group, or one by one.
use mathlib.Core.Path.{◌≡◌, refl, ◌∙◌}
use mathlib.Core.List.{List, [], ◌∷◌}
use Prim.Native.Nat.{ℕ, ◌+◌, ◌-◌, ◌*◌, ◌%◌, ◌≤◌, ◌<◌}
use native.Mathlib.Omega.{arith}
use native.Mathlib.Numerals.{add-one}
use lib.ListN.{length, take, set, length-set}
use lib.Seq.{take-suc-set}
use Rattle.terms.specs.Tree.{label_at, IsTree}
use Rattle.terms.specs.Fleet.{IsFleet, most_nodes}
use Rattle.rightmost.specs.PlaceList.{Places}
use Rattle.rightmost.proofs.ListedLaws.{listed_none, listed_further, listed_more, listed_single}
use Rattle.root_places.specs.Labelled.{NoneLabelled, OnlyLabelled, GroupTold, LabelledTo}

-- A GROUP. What is told of the nodes of a group so far
pub record ToldTo (fleet : List ℕ) (label from i sum : ℕ) : Type 0 where
  pub to_end : i ≤ 16
  pub few : sum ≤ i * 32
  pub none : sum ≡ 0 → NoneLabelled fleet label from (from + i)
  pub one : 0 < sum → sum < 32 → (16 ≤ sum) × OnlyLabelled fleet label from (from + i) (from + sum - 16)

-- the nodes with it, listed
label_is : {label : ℕ} → IsTree (label ∷ []) → label % 1000 ≡ label
label_is t = omega (arith, t.root_depth)

pub labelled_none : {label : ℕ} {fleet list : List ℕ} → IsTree (label ∷ []) → IsFleet fleet → most_nodes ≤ length list → LabelledTo label fleet list 0 0
labelled_none t f h = record { is_root = t; is_fleet = f; room = h; within = omega arith; few = omega arith; listed = listed_none 0 (λ w k. absurd (omega arith)) }

-- past nodes that do not have it
pub labelled_further : {label : ℕ} {fleet list : List ℕ} {len node : ℕ} (stop : ℕ) → LabelledTo label fleet list len node → node ≤ stop → stop ≤ length fleet → NoneLabelled fleet label node stop → LabelledTo label fleet list len stop
labelled_further stop l a b n = record {
  is_root = l.is_root;
  is_fleet = l.is_fleet;
  room = l.room;
  within = b;
  few = omega (arith, l.few);
  listed = listed_further stop a n l.listed;
}

pub labelled_all : {label : ℕ} {fleet list : List ℕ} {len : ℕ} → LabelledTo label fleet list len (length fleet) → Places (label ∷ []) fleet (take len list) × (len ≤ length fleet)
labelled_all l = (listed_single l.is_root (rw (label_is l.is_root) l.listed), l.few)

pub record PutTo (label : ℕ) (fleet : List ℕ) (stop : ℕ) (list₀ list : List ℕ) (end node : ℕ) : Type 0 where
  pub labelled : LabelledTo label fleet list end node
  pub to_stop : node ≤ stop
  pub inside : stop ≤ length fleet
  pub same_length : length list ≡ length list₀

pub put_from : {label : ℕ} {fleet list : List ℕ} {len from stop : ℕ} → LabelledTo label fleet list len from → from ≤ stop → stop ≤ length fleet → PutTo label fleet stop list list len from
put_from l a b = record { labelled = l; to_stop = a; inside = b; same_length = refl }

module _ {label : ℕ} {fleet list₀ list : List ℕ} {stop end node : ℕ} (p : PutTo label fleet stop list₀ list end node) where
  pub node_inside : node < stop → node < length fleet
  node_inside h = omega (arith, p.inside)

  pub node_few : node < stop → node < most_nodes
  node_few h = omega (arith, node_inside h, p.labelled.is_fleet.nodes)

  pub end_few : node < stop → end < most_nodes
  end_few h = omega (arith, node_few h, p.labelled.few)

  pub end_room : node < stop → end < length list
  end_room h = omega (arith, end_few h, p.labelled.room)

  pub node_put : node < stop → label_at fleet node ≡ label → PutTo label fleet stop list₀ (set list end node) (end + 1) (node + 1)
  node_put h e = rw (add-one node, add-one end) (record {
    labelled = record {
      is_root = p.labelled.is_root;
      is_fleet = p.labelled.is_fleet;
      room = rw (length-set list end node) p.labelled.room;
      within = node_inside h;
      few = omega (arith, p.labelled.few);
      listed = rw (take-suc-set list end node (end_room h)) (listed_more e p.labelled.listed);
    };
    to_stop = h;
    inside = p.inside;
    same_length = length-set list end node ∙ p.same_length;
  })

  pub node_passed : node < stop → ¬ (label_at fleet node ≡ label) → PutTo label fleet stop list₀ list end (node + 1)
  node_passed h n = record {
    labelled = labelled_further (node + 1) p.labelled (omega arith) (omega (arith, node_inside h)) (λ w a b. let z : w ≡ node = omega arith in rw z n);
    to_stop = omega arith;
    inside = p.inside;
    same_length = p.same_length;
  }

-- `place_root`: by groups to the end of the fleet
pub root_start : {label : ℕ} {fleet list : List ℕ} → IsTree (label ∷ []) → IsFleet fleet → most_nodes ≤ length list → PutTo label fleet (length fleet) list list 0 0
root_start t f h = put_from (labelled_none t f h) (omega arith) (omega arith)

module _ {label : ℕ} {fleet list₀ list : List ℕ} {len node : ℕ} (p : PutTo label fleet (length fleet) list₀ list len node) (h : 16 ≤ length fleet - node) where
  pub group_inside : node + 16 ≤ length fleet
  group_inside = omega arith

  pub group_put : {list' : List ℕ} {len' : ℕ} → LabelledTo label fleet list' len' (node + 16) → length list' ≡ length list → PutTo label fleet (length fleet) list₀ list' len' (node + 16)
  group_put l e = record { labelled = l; to_stop = group_inside; inside = omega arith; same_length = e ∙ p.same_length }

  -- no node of the group has the label, or one
  module _ {told : ℕ} (g : GroupTold fleet label node told) (k : told < 32) where
    pub none_put : told ≤ 0 → PutTo label fleet (length fleet) list₀ list len (node + 16)
    none_put z = group_put (labelled_further (node + 16) p.labelled (omega arith) group_inside (g.none (omega arith))) refl

    module _ (s : 0 < told) where
      only : OnlyLabelled fleet label node (node + 16) (node + told - 16)
      only = (g.one s k).1

      to_it : PutTo label fleet (length fleet) list₀ list len (node + told - 16)
      to_it = record { labelled = labelled_further (node + told - 16) p.labelled only.from_on (omega (arith, only.inside, group_inside)) (λ w a b q. omega (arith, only.only w a (omega (arith, only.inside)) q)); to_stop = omega (arith, only.inside, group_inside); inside = omega arith; same_length = p.same_length }

      it_inside : node + told - 16 < length fleet
      it_inside = omega (arith, only.inside, group_inside)

      pub one_put : PutTo label fleet (length fleet) list₀ (set list len (node + told - 16)) (len + 1) (node + 16)
      one_put = let q = node_put to_it it_inside only.has_it in group_put (labelled_further (node + 16) q.labelled (omega (arith, only.inside)) group_inside (λ w a b e. omega (arith, only.only w (omega (arith, only.from_on)) b e))) (length-set list len (node + told - 16))
