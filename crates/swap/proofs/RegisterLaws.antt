-- LAWS. The register after the tree of a vehicle has left it and another has joined it: that of the new fleet.
use mathlib.Core.Path.{◌≡◌, sym, ap, ◌∙◌}
use mathlib.Core.List.{List, [], ◌++◌}
use Prim.Native.Nat.{ℕ, suc, ◌+◌, ◌-◌, ◌%◌, ◌≤◌, ◌<◌}
use native.Mathlib.Omega.{arith}
use native.Mathlib.Decide.{dec_le}
use lib.ListN.{length, get_or, set, take, drop, length-take, take-append-drop}
use lib.Seq.{get_or-take}
use Rattle.terms.specs.Fleet.{IsFleet, IsVehicle, vehicles, end_to_end, most_nodes}
use Rattle.terms.proofs.Decide.{choose}
use Rattle.terms.proofs.VehicleLaws.{vehicles_join}
use Rattle.vehicles.specs.Vehicle.{TreeStart, TreeEnd, stretch}
use Rattle.sets.specs.Sets.{IsVehicleNumber, with, without}
use Rattle.register.specs.Register.{most_label, label_nodes, label_holders, entries, register_nodes, register_holders, IsRegister}
use Rattle.register.specs.Trees.{AddInput, TakeInput, Added, Taken}
use Rattle.register.proofs.LabelLaws.{nodes_few}
use Rattle.register.proofs.HolderLaws.{holders_set, nodes_of_tree, nodes_set}
use Rattle.register.proofs.EntryLaws.{entries_length, entries_at, entries_are}
use Rattle.swap.proofs.NewFleet as n

-- the entries of a lent register
module _ (entry : ℕ → ℕ) (l : List ℕ) (e : take most_label l ≡ entries entry most_label 1) where
  pub all_entries : most_label ≤ length l
  all_entries = omega (arith, ap length e, length-take most_label l, entries_length entry most_label 1)

  pub entry_at : (i : ℕ) → i < most_label → get_or l i 0 ≡ entry (suc i)
  entry_at i h = sym (get_or-take most_label l i 0 h) ∙ ap (λ (s : List ℕ). get_or s i 0) e ∙ entries_at entry most_label 1 i h ∙ ap entry (omega arith)

entries_again : (entry : ℕ → ℕ) (l before : List ℕ) → most_label ≤ length l → ((i : ℕ) → i < most_label → get_or l i 0 ≡ entry (suc i))
    → drop most_label l ≡ drop most_label before → l ≡ entries entry most_label 1 ++ drop (length (entries entry most_label 1)) before
entries_again entry l before long each rest =
    sym (take-append-drop most_label l)
    ∙ ap (λ (s : List ℕ). s ++ drop most_label l) (entries_are entry most_label 1 l long (λ i h. each i h ∙ ap entry (omega arith)))
    ∙ ap (λ (s : List ℕ). entries entry most_label 1 ++ s) rest
    ∙ ap (λ (k : ℕ). entries entry most_label 1 ++ drop k before) (sym (entries_length entry most_label 1))

-- the vehicle leaves the set where the old tree holds the label, and joins it where the new one does
abbrev changed : {A B : Type 0} → Dec A → Dec B → (vehicle s : ℕ) → ℕ
changed new old vehicle s = choose new (with vehicle (choose old (without vehicle s) s)) (choose old (without vehicle s) s)

module _ (fleet : List ℕ) (vehicle from to : ℕ) (start : TreeStart fleet vehicle from) (end : TreeEnd fleet from to) (named : (1 ≤ vehicle) × (vehicle ≤ length (vehicles fleet)))
    (is_fleet : IsFleet fleet) (tree : List ℕ) (is_vehicle : IsVehicle tree) (nodes holders : List ℕ) (register : IsRegister fleet nodes holders) where
  abbrev old : List ℕ
  old = stretch fleet from to

  abbrev trees : List (List ℕ)
  trees = vehicles fleet

  abbrev new : List ℕ
  new = end_to_end (set trees (vehicle - 1) tree)

  nodes_at : (e : ℕ) → e < most_label → get_or nodes e 0 ≡ label_nodes (suc e) fleet
  nodes_at = entry_at (λ label. label_nodes label fleet) nodes register.nodes_are

  holders_at : (e : ℕ) → e < most_label → get_or holders e 0 ≡ label_holders (suc e) trees
  holders_at = entry_at (λ label. label_holders label trees) holders register.holders_are

  number : IsVehicleNumber vehicle
  number = (named.0, omega (arith, named.1, is_fleet.trees))

  abbrev vehicles_tree : List ℕ
  vehicles_tree = get_or trees (vehicle - 1) []

  inside : vehicle - 1 < length trees
  inside = omega (arith, named.0, named.1)

  is_old : old ≡ vehicles_tree
  is_old = n.old_tree fleet vehicle from to start end named

  -- nodes of a label in the tree and in both fleets
  old_nodes : (label : ℕ) → label_nodes label old ≤ label_nodes label fleet
  old_nodes label = omega (arith, nodes_of_tree label trees (vehicle - 1) inside, ap (label_nodes label) is_old, ap (label_nodes label) (vehicles_join fleet))

  new_nodes : (label : ℕ) → label_nodes label new + label_nodes label old ≡ label_nodes label fleet + label_nodes label tree
  new_nodes label =
      ap (λ (t : List ℕ). label_nodes label new + label_nodes label t) is_old ∙ nodes_set label trees (vehicle - 1) tree inside
      ∙ ap (λ (t : List ℕ). label_nodes label t + label_nodes label tree) (vehicles_join fleet)

  pub take_input : TakeInput old vehicle nodes holders
  take_input = record {
    input = record {
      is_number = number;
      labelled = labels is_old (is_fleet.each (vehicle - 1) inside);
      all_nodes = all_entries (λ label. label_nodes label fleet) nodes register.nodes_are;
      all_holders = all_entries (λ label. label_holders label trees) holders register.holders_are;
    };
    enough = λ e h. omega (arith, nodes_at e h, old_nodes (suc e));
  }
    where
      labels : {s t : List ℕ} → s ≡ t → IsVehicle t → (i : ℕ) → i < length s → 1 ≤ get_or s i 0 % 1000
      labels q v i h = rw q (v.is_tree.pairs i (rw q at h)).label_from_1

  module _ (few : length new ≤ most_nodes) {nodes' holders' : List ℕ} (taken : Taken old vehicle nodes holders nodes' holders') where
    pub add_input : AddInput tree vehicle nodes' holders'
    add_input = record {
      input = record {
        is_number = number;
        labelled = λ i h. (is_vehicle.is_tree.pairs i h).label_from_1;
        all_nodes = omega (arith, taken.rest.as_long, take_input.input.all_nodes);
        all_holders = omega (arith, taken.rest.as_long_too, take_input.input.all_holders);
      };
      few = λ e h. omega (arith, taken.nodes_are e h, nodes_at e h, old_nodes (suc e), new_nodes (suc e), nodes_few (suc e) new);
    }

    module _ {nodes'' holders'' : List ℕ} (added : Added tree vehicle nodes' holders' nodes'' holders'') where
      new_vehicles : vehicles new ≡ set trees (vehicle - 1) tree
      new_vehicles = n.new_vehicles fleet vehicle named is_fleet tree is_vehicle

      pub nodes_new : nodes'' ≡ register_nodes new ++ drop (length (register_nodes new)) nodes
      nodes_new = entries_again (λ label. label_nodes label new) nodes'' nodes
          (omega (arith, added.rest.as_long, taken.rest.as_long, take_input.input.all_nodes))
          (λ e h. omega (arith, added.nodes_are e h, taken.nodes_are e h, nodes_at e h, old_nodes (suc e), new_nodes (suc e)))
          (added.rest.nodes_rest ∙ taken.rest.nodes_rest)

      pub holders_new : holders'' ≡ register_holders new ++ drop (length (register_holders new)) holders
      holders_new = entries_again (λ label. label_holders label (vehicles new)) holders'' holders
          (omega (arith, added.rest.as_long_too, taken.rest.as_long_too, take_input.input.all_holders))
          each
          (added.rest.holders_rest ∙ taken.rest.holders_rest)
        where
          each : (e : ℕ) → e < most_label → get_or holders'' e 0 ≡ label_holders (suc e) (vehicles new)
          each e h =
              let tree? = dec_le 1 (label_nodes (suc e) tree) in
              let set = label_holders (suc e) trees in
              let v : suc (vehicle - 1) ≡ vehicle = omega (arith, named.0) in
              added.holders_are e h
              ∙ ap (λ (s : ℕ). choose tree? (with vehicle s) s) (taken.holders_are e h)
              ∙ ap (λ (s : ℕ). changed tree? (dec_le 1 (label_nodes (suc e) old)) vehicle s) (holders_at e h)
              ∙ ap (λ (t : List ℕ). changed tree? (dec_le 1 (label_nodes (suc e) t)) vehicle set) is_old
              ∙ ap (λ (k : ℕ). changed tree? (dec_le 1 (label_nodes (suc e) vehicles_tree)) k set) (sym v)
              ∙ sym (holders_set (suc e) trees (vehicle - 1) tree inside)
              ∙ ap (label_holders (suc e)) (sym new_vehicles)
