-- LAWS. The fleet with one tree replaced, and its vehicles.
use mathlib.Core.Path.{◌≡◌, sym, ap, ◌∙◌}
use mathlib.Core.List.{List, [], ◌∷◌, ◌++◌, append_assoc}
use Prim.Native.Nat.{ℕ, zero, suc, ◌+◌, ◌-◌, ◌≤◌, ◌<◌}
use native.Mathlib.Omega.{arith}
use native.Mathlib.Decide.{ℕ_discrete}
use lib.ListN.{length, get_or, set, take, drop, length-append, length-drop, length-set}
use lib.Seq.{set_split, drop-cons, take_at, drop_at, drop-drop, take-take, take-nil, get_or-set_same, get_or-set_other, length-take-le}
use Rattle.terms.specs.Fleet.{IsFleet, IsVehicle, vehicles, end_to_end, most_nodes}
use Rattle.vehicles.specs.Vehicle.{EndsAt, TreeStart, TreeEnd, stretch}
use Rattle.vehicles.proofs.StartLaws.{joined, fleet_parts, tree_of}
use Rattle.moving.specs.Moving.{spliced}
use Rattle.swap.proofs.OneTree.{vehicles_of}

-- trees end to end, one of them replaced
pub joined_set : (ts : List (List ℕ)) (k : ℕ) (tree : List ℕ) → k < length ts → end_to_end (set ts k tree) ≡ end_to_end (take k ts) ++ tree ++ end_to_end (drop (suc k) ts)
unfolding end_to_end
joined_set ts k tree h =
    ap end_to_end (set_split ts k tree h) ∙ joined (take k ts) (tree ∷ drop (suc k) ts)
    ∙ sym (append_assoc (end_to_end (take k ts)) tree (end_to_end (drop (suc k) ts)))

-- a part of a part
drop_take : (n m : ℕ) (l : List ℕ) → drop n (take m l) ≡ take (m - n) (drop n l)
drop_take zero m l = let z : m ≡ m - 0 = omega arith in ap (λ (i : ℕ). take i l) z
drop_take (suc n) zero l = let z : 0 ≡ 0 - suc n = omega arith in ap (λ (i : ℕ). take i (drop (suc n) l)) z
drop_take (suc n) (suc m) [] = sym (take-nil (suc m - suc n))
drop_take (suc n) (suc m) (x ∷ l) = let z : m - n ≡ suc m - suc n = omega arith in drop_take n m l ∙ ap (λ (i : ℕ). take i (drop n l)) z

-- the new fleet's vehicles are the old ones, that one replaced
module _ (fleet : List ℕ) (vehicle : ℕ) (named : (1 ≤ vehicle) × (vehicle ≤ length (vehicles fleet))) (is_fleet : IsFleet fleet) (tree : List ℕ) (is_vehicle : IsVehicle tree) where
  abbrev new_trees : List (List ℕ)
  new_trees = set (vehicles fleet) (vehicle - 1) tree

  each_new : (n : ℕ) → n < length new_trees → IsVehicle (get_or new_trees n [])
  each_new n h = go (ℕ_discrete n (vehicle - 1))
    where
      go : Dec (n ≡ vehicle - 1) → IsVehicle (get_or new_trees n [])
      go (yes q) = rw (q, get_or-set_same (vehicles fleet) (vehicle - 1) tree [] (omega (arith, named.0, named.1))) is_vehicle
      go (no q) = rw (get_or-set_other (vehicles fleet) (vehicle - 1) n tree [] q) (is_fleet.each n (omega (arith, length-set (vehicles fleet) (vehicle - 1) tree)))

  pub new_vehicles : vehicles (end_to_end new_trees) ≡ new_trees
  new_vehicles = vehicles_of new_trees (λ n h. (each_new n h).is_tree)

  pub new_is_fleet : length (end_to_end new_trees) ≤ most_nodes → IsFleet (end_to_end new_trees)
  new_is_fleet few =
      let n = length-set (vehicles fleet) (vehicle - 1) tree in
      let m = ap length new_vehicles in
      record {
        some_tree = omega (arith, is_fleet.some_tree);
        trees = omega (arith, is_fleet.trees);
        nodes = few;
        each = λ i h. rw new_vehicles (each_new i (omega arith));
      }

-- the fleet before the tree of a vehicle, the tree, and the fleet behind it
module _ (fleet : List ℕ) (vehicle from to : ℕ) (start : TreeStart fleet vehicle from) (end : TreeEnd fleet from to) (named : (1 ≤ vehicle) × (vehicle ≤ length (vehicles fleet))) where
  abbrev trees : List (List ℕ)
  trees = vehicles fleet

  abbrev old : List ℕ
  old = get_or trees (vehicle - 1) []

  ends : EndsAt fleet from to
  ends = (tree_of fleet vehicle from to start end named).0

  inside : vehicle - 1 < length trees
  inside = omega (arith, named.0, named.1)

  pub old_tree : stretch fleet from to ≡ old
  old_tree = (tree_of fleet vehicle from to start end named).1

  size_old : length old ≡ to - from
  size_old = ap length (sym old_tree) ∙ length-take-le (to - from) (drop from fleet) (omega (arith, length-drop from fleet, ends.within))

  size_before : length (end_to_end (take (vehicle - 1) trees)) ≡ from
  size_before = sym (start.of_tree named)

  behind_first : end_to_end (drop (vehicle - 1) trees) ≡ old ++ end_to_end (drop (suc (vehicle - 1)) trees)
  unfolding end_to_end
  behind_first = ap end_to_end (drop-cons trees (vehicle - 1) [] inside)

  before : end_to_end (take (vehicle - 1) trees) ≡ take from fleet
  before = sym (take_at (end_to_end (take (vehicle - 1) trees)) (end_to_end (drop (vehicle - 1) trees)) from size_before) ∙ ap (take from) (fleet_parts fleet (vehicle - 1))

  behind : end_to_end (drop (suc (vehicle - 1)) trees) ≡ drop to fleet
  behind =
      let first : drop from fleet ≡ end_to_end (drop (vehicle - 1) trees) =
      ap (drop from) (sym (fleet_parts fleet (vehicle - 1))) ∙ drop_at (end_to_end (take (vehicle - 1) trees)) (end_to_end (drop (vehicle - 1) trees)) from size_before in
      let n : from + (to - from) ≡ to = omega (arith, ends.after) in
      sym (drop_at old (end_to_end (drop (suc (vehicle - 1)) trees)) (to - from) size_old)
      ∙ ap (drop (to - from)) (sym behind_first ∙ sym first) ∙ drop-drop (to - from) from fleet ∙ ap (λ (i : ℕ). drop i fleet) n

  pub new_joined : (tree : List ℕ) → end_to_end (set trees (vehicle - 1) tree) ≡ take from fleet ++ tree ++ drop to fleet
  new_joined tree =
      joined_set trees (vehicle - 1) tree inside
      ∙ ap (λ (s : List ℕ). s ++ tree ++ end_to_end (drop (suc (vehicle - 1)) trees)) before
      ∙ ap (λ (s : List ℕ). take from fleet ++ tree ++ s) behind

  pub new_size : (tree : List ℕ) → length (end_to_end (set trees (vehicle - 1) tree)) ≡ from + length tree + (length fleet - to)
  new_size tree =
      let first : length (take from fleet) ≡ from = length-take-le from fleet (omega (arith, ends.after, ends.within)) in
      ap length (new_joined tree) ∙ omega (arith, length-append (take from fleet ++ tree) (drop to fleet), length-append (take from fleet) tree, length-drop to fleet, first)

-- the buffer with the pairs replaced: the new fleet, and all behind it as it was
pub buffer_new : (buffer : List ℕ) (used vehicle from to : ℕ) (tree : List ℕ) → used ≤ length buffer
    → TreeStart (take used buffer) vehicle from → TreeEnd (take used buffer) from to → (1 ≤ vehicle) × (vehicle ≤ length (vehicles (take used buffer)))
    → spliced buffer used from to tree ≡ end_to_end (set (vehicles (take used buffer)) (vehicle - 1) tree) ++ drop (length (end_to_end (set (vehicles (take used buffer)) (vehicle - 1) tree))) buffer
buffer_new buffer used vehicle from to tree room start end named =
    let fleet : List ℕ = take used buffer in
    let size : length fleet ≡ used = length-take-le used buffer room in
    let e = ends fleet vehicle from to start end named in
    let first : take from fleet ≡ take from buffer = take-take from used buffer (omega (arith, e.after, e.within)) in
    let last : drop to fleet ≡ take (used - to) (drop to buffer) = drop_take to used buffer in
    let new = new_joined fleet vehicle from to start end named tree in
    let total : length (end_to_end (set (vehicles fleet) (vehicle - 1) tree)) ≡ from + length tree + (used - to) = new_size fleet vehicle from to start end named tree ∙ ap (λ (n : ℕ). from + length tree + (n - to)) size in
    let whole : end_to_end (set (vehicles fleet) (vehicle - 1) tree) ≡ take from buffer ++ tree ++ take (used - to) (drop to buffer) =
    new ∙ ap (λ (s : List ℕ). s ++ tree ++ drop to fleet) first ∙ ap (λ (s : List ℕ). take from buffer ++ tree ++ s) last in
    ap (λ (s : List ℕ). s ++ drop (from + length tree + (used - to)) buffer) (sym whole)
    ∙ ap (λ (n : ℕ). end_to_end (set (vehicles fleet) (vehicle - 1) tree) ++ drop n buffer) (sym total)
