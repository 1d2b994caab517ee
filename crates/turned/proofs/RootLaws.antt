-- LAWS. The support of a pattern with a new root: the vehicles with a place of the old root below a node of the new label.
use mathlib.Core.Path.{◌≡◌, refl, sym, ap, ◌∙◌}
use mathlib.Core.Logic.{◌↔◌, ◌⊎◌, inl, inr}
use mathlib.Core.List.{List, []}
use Prim.Native.Nat.{ℕ, suc, ◌+◌, ◌-◌, ◌%◌, ◌≤◌, ◌<◌}
use native.Mathlib.Omega.{arith}
use native.Mathlib.Decide.{dec_lt}
use lib.ListN.{length, get_or, drop}
use lib.Seq.{get_or-take, get_or-drop}
use Rattle.terms.specs.Tree.{depthAt, label_at, IsTree, IsParent}
use Rattle.terms.specs.Matching.{placeAt}
use Rattle.terms.specs.Placing.{Occurs}
use Rattle.terms.specs.Fleet.{vehicles}
use Rattle.terms.proofs.TreeLaws.{tree_any_depth}
use Rattle.vehicles.specs.Vehicle.{stretch}
use Rattle.occurrence.specs.Support.{whole_support}
use Rattle.rightmost.specs.Ends.{PlacedAt, LastPlace, last_of, Up, itself, above, IsChild}
use Rattle.rightmost.specs.PlaceList.{Places, Tally}
use Rattle.rightmost.specs.Vehicles.{VehicleNumbered, VehiclesNumbered}
use Rattle.rightmost.proofs.UpLaws.{up_more}
use Rattle.rightmost.proofs.BranchLaws.{branch_root, branch_place, branch_exactly}
use Rattle.rightmost.proofs.PlaceOrder.{up_split}
use Rattle.rightmost.proofs.FleetPlaces.{fleet_places, fleet_child, same_vehicle, same_vehicle_down}
use Rattle.rightmost.proofs.GatherLaws.{place_inside, numbers_rise}
use Rattle.rightmost.proofs.TallyLaws.{tally_support, tally_same}
use Rattle.supertrees.specs.Supertree.{OneNodeSupertree}
use Rattle.supertrees.specs.Candidate.{with_root, root_above, candidate_tree, IsCandidate}
use Rattle.supertrees.proofs.CandidateLaws.{candidate_supertree}
use Rattle.supertrees.proofs.NewRoot.{AbovePlace, root_occurs_exactly}
use Rattle.turned.specs.AboveRoot.{AboveRoot, RootNoted, RootNotedFrom}

pub new_root_candidate : {p : List ℕ} {l : ℕ} → IsTree p → 1 ≤ l → l ≤ 999 → IsCandidate p (root_above l)
new_root_candidate t a b = record { node = t.has_root; from_1 = a; to_999 = b }

-- it is a supertree of one more node
pub new_root_larger : {p : List ℕ} {l : ℕ} → IsTree p → 1 ≤ l → l ≤ 999 → OneNodeSupertree p (with_root p l)
unfolding candidate_tree
new_root_larger {p} {l} t a b = candidate_supertree p (root_above l) (tree_any_depth t) (new_root_candidate t a b)

-- the root's place, and the node above it
record Root (p q : List ℕ) (l w : ℕ) : Type 0 where
  place : ℕ
  placed : PlacedAt p q 0 place
  below : Up q place (depthAt p (last_of p)) w
  node : ℕ
  parent : IsParent q node place
  has_label : label_at q node ≡ l

root_of : {p q : List ℕ} {l w : ℕ} → IsTree p → AboveRoot p l q w → Root p q l w
root_of {p} {q} {l} {w} t z = record { place = d; placed = record { tuple = z.last_place.tuple; placing = z.last_place.placing; there = omega (arith, z.last_place.placing.from_1 0 t.has_root) }; below = below; node = z.node; parent = one (up_split below z.up (omega arith)) (omega arith); has_label = z.has_label }
  where
    d : ℕ
    d = placeAt z.last_place.tuple 0

    here : placeAt z.last_place.tuple (last_of p) ≡ w
    here = omega (arith, z.last_place.there)

    all : depthAt p (last_of p) - 0 ≡ depthAt p (last_of p)
    all = omega arith

    below : Up q d (depthAt p (last_of p)) w
    below = rw (here, all) at (branch_place t (branch_root p t) z.last_place.placing)

    one : {k v : ℕ} → Up q z.node k v → k ≡ 1 → IsParent q z.node v
    one (itself e) h = absurd (omega arith)
    one (above r (itself e)) h = rw e at r
    one (above r (above r' u)) h = absurd (omega arith)

above_of : {p q : List ℕ} {l w u : ℕ} → IsTree p → LastPlace p q w → (d : ℕ) → Up q d (depthAt p (last_of p) - 0) w → IsParent q u d → label_at q u ≡ l → AboveRoot p l q w
above_of {p} {q} {u = u} t at d up r e = let all : depthAt p (last_of p) - 0 ≡ depthAt p (last_of p) = omega arith in record { last_place = at; node = u; up = rw all at (up_more up r); has_label = e }

-- IN A VEHICLE: the larger tree occurs exactly if the vehicle's number is noted
module _ {fleet table p : List ℕ} {l i : ℕ} (t : IsTree p) (c : IsCandidate p (root_above l)) (v : VehicleNumbered fleet table i) where
  label_in : (j : ℕ) → v.start + j < v.end → label_at (stretch fleet v.start v.end) j ≡ label_at fleet (v.start + j)
  label_in j h = ap (λ (x : ℕ). x % 1000) (get_or-take (v.end - v.start) (drop v.start fleet) j 0 (omega arith) ∙ get_or-drop v.start fleet j 0)

  to : (u : ℕ) × AbovePlace p (stretch fleet v.start v.end) l u → RootNoted p l fleet table (suc i)
  to z =
      let a = z.1 in
      let y = (fleet_places v.stands t t.has_root).0 (record { tuple = a.occurs.tuple; placing = a.occurs.placing; there = a.occurs.root }) in
      let w = (branch_exactly t (branch_root p t)).0 y.0 in
      let r = (fleet_child v.stands y.1).0 (a.child, refl) in
      let e = above_of t w.1 (v.start + a.place) w.2 r.0 (sym (label_in z.0 (below a.child.before y.1)) ∙ a.label) in
      let k = same_vehicle_down v.stands w.2 (place_inside t w.1) (omega arith) y.1 in
      record { place = w.0; above_root = e; in_vehicle = v.has w.0 k.0 k.1 }
    where
      below : {j k : ℕ} → j < k → v.start + k < v.end → v.start + j < v.end
      below h k = omega arith

  from : RootNoted p l fleet table (suc i) → (u : ℕ) × AbovePlace p (stretch fleet v.start v.end) l u
  from n = (r.node - v.start, record { label = label_in (r.node - v.start) (omega (arith, same r.node node_in.0, node_in.1)) ∙ ap (label_at fleet) (same r.node node_in.0) ∙ r.has_label; place = r.place - v.start; child = child.0; occurs = record { tuple = at.tuple; placing = at.placing; root = at.there } })
    where
      r : Root p fleet l n.place
      r = root_of t n.above_root

      inside : n.place < length fleet
      inside = place_inside t n.above_root.last_place

      here : (v.start ≤ n.place) × (n.place < v.end)
      here = v.only n.place inside n.in_vehicle

      root_in : (v.start ≤ r.place) × (r.place < v.end)
      root_in = same_vehicle v.stands r.below inside here.0 here.1

      node_in : (v.start ≤ r.node) × (r.node < v.end)
      node_in = same_vehicle v.stands (above r.parent (itself refl)) r.parent.inside root_in.0 root_in.1

      same : (k : ℕ) → v.start ≤ k → v.start + (k - v.start) ≡ k
      same k h = omega arith

      at : PlacedAt p (stretch fleet v.start v.end) 0 (r.place - v.start)
      at = (fleet_places v.stands t t.has_root).1 (rw (same r.place root_in.0) (r.placed, root_in.1))

      child : IsChild (stretch fleet v.start v.end) (r.node - v.start) (label_at fleet r.place) (r.place - v.start)
      child = (fleet_child v.stands {w = r.place - v.start} (omega (arith, same r.place root_in.0, root_in.1))).1 (rw (same r.place root_in.0, same r.node node_in.0) (r.parent, refl))

  pub root_noted_exactly : Occurs (with_root p l) (get_or (vehicles fleet) i []) ↔ RootNoted p l fleet table (suc i)
  root_noted_exactly = (
    λ o. to ((root_occurs_exactly p l (tree_any_depth t) c (stretch fleet v.start v.end)).0 (rw v.tree at o)),
    λ n. rw v.tree ((root_occurs_exactly p l (tree_any_depth t) c (stretch fleet v.start v.end)).1 (from n)),
  )

-- PLACE BY PLACE
module _ {p : List ℕ} {l : ℕ} {fleet table places : List ℕ} where
  pub root_noted_none : (number : ℕ) → ¬ RootNotedFrom p l fleet table places 0 number
  root_noted_none number z = omega (arith, z.among)

  pub root_noted_still : {n : ℕ} (number : ℕ) → RootNotedFrom p l fleet table places n number → RootNotedFrom p l fleet table places (suc n) number
  root_noted_still number z = record { index = z.index; among = omega (arith, z.among); above_root = z.above_root; in_vehicle = z.in_vehicle }

  pub root_noted_now : (n : ℕ) → AboveRoot p l fleet (get_or places n 0) → RootNotedFrom p l fleet table places (suc n) (get_or table (get_or places n 0) 0)
  root_noted_now n z = record { index = n; among = omega arith; above_root = z; in_vehicle = refl }

  -- what came came before, or comes now
  pub root_noted_next : (n number : ℕ) → RootNotedFrom p l fleet table places (suc n) number → RootNotedFrom p l fleet table places n number ⊎ (AboveRoot p l fleet (get_or places n 0) × (number ≡ get_or table (get_or places n 0) 0))
  root_noted_next n number z = go (dec_lt z.index n)
    where
      go : Dec (z.index < n) → RootNotedFrom p l fleet table places n number ⊎ (AboveRoot p l fleet (get_or places n 0) × (number ≡ get_or table (get_or places n 0) 0))
      go (yes h) = inl (record { index = z.index; among = h; above_root = z.above_root; in_vehicle = z.in_vehicle })
      go (no h) =
          let e : z.index ≡ n = omega (arith, z.among) in
          inr (rw e at z.above_root, sym z.in_vehicle ∙ ap (λ (k : ℕ). get_or table (get_or places k 0) 0) e)

  -- numbers never fall
  pub root_noted_past : VehiclesNumbered fleet table → IsTree p → Places p fleet places → (n : ℕ) → n < length places → (number : ℕ) → RootNotedFrom p l fleet table places n number → number ≤ get_or table (get_or places n 0) 0
  root_noted_past nb t ps n h number z =
      let k : z.index < length places = omega (arith, z.among) in
      omega (arith, z.in_vehicle, numbers_rise nb (ps.in_order z.index n z.among h) (place_inside t (ps.each z.index k)) (place_inside t (ps.each n h)))

  -- THE CLAIM: the count kept over all places is the whole support of the pattern with the new root.
  pub root_support : {last count : ℕ} → VehiclesNumbered fleet table → IsTree p → IsCandidate p (root_above l) → Places p fleet places → Tally (RootNotedFrom p l fleet table places (length places)) (suc (length (vehicles fleet))) last count → whole_support fleet (with_root p l) ≡ count
  root_support nb t c ps tally = tally_support fleet (with_root p l) (λ i h. root_noted_exactly t c (nb.each i h)) (tally_same all tally)
    where
      all : (number : ℕ) → RootNoted p l fleet table number ↔ RootNotedFrom p l fleet table places (length places) number
      all number = (to_list, λ z. record { place = get_or places z.index 0; above_root = z.above_root; in_vehicle = z.in_vehicle })
        where
          to_list : RootNoted p l fleet table number → RootNotedFrom p l fleet table places (length places) number
          to_list z =
              let y = ps.none_missing z.place z.above_root.last_place in
              record { index = y.0; among = y.1; above_root = rw y.2 z.above_root; in_vehicle = ap (λ (k : ℕ). get_or table k 0) y.2 ∙ z.in_vehicle }
