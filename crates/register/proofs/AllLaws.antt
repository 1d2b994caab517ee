-- LAWS. The trees of a fleet join a register of nothing, one after another.
use mathlib.Core.Path.{◌≡◌, refl, sym, ap, ◌∙◌}
use mathlib.Core.List.{List, [], ◌∷◌, ◌++◌, append-nil, append_assoc}
use Prim.Native.Nat.{ℕ, suc, ◌+◌, ◌-◌, ◌≤◌, ◌<◌}
use native.Mathlib.Omega.{arith}
use native.Mathlib.Decide.{dec_le}
use lib.ListN.{length, get_or, take, drop, length-append, take-append-drop, drop_of_length-le}
use lib.Seq.{take_all, take-add, get_or_at}
use Rattle.terms.specs.Fleet.{vehicles, IsVehicle}
use Rattle.terms.proofs.Decide.{choose}
use Rattle.vehicles.specs.Vehicle.{EndsAt, stretch}
use Rattle.vehicles.proofs.StretchLaws.{one_more}
use Rattle.sets.specs.Sets.{with}
use Rattle.register.specs.Register.{most_label, label_nodes, label_holders}
use Rattle.register.specs.Trees.{AddInput, RestKept, Added, AddAllInput, AllAdded}
use Rattle.register.proofs.LabelLaws.{nodes_append, nodes_of_first, nodes_few}
use Rattle.register.proofs.HolderLaws.{holders_more}
use Rattle.register.proofs.EntryLaws.{entries_are}
use Rattle.register.proofs.TreeLaws.{rest_same}

-- what is so when some trees are done and the next has this number
pub record AllTo (fleet nodes holders : List ℕ) (at vehicle : ℕ) (nodes' holders' : List ℕ) : Type 0 where
  pub within : at ≤ length fleet
  pub input : AddAllInput fleet nodes holders
  pub done : List (List ℕ)
  pub joined : vehicles fleet ≡ done ++ vehicles (drop at fleet)
  pub number : vehicle ≡ suc (length done)
  pub rest : RestKept nodes holders nodes' holders'
  pub nodes_are : (e : ℕ) → e < most_label → get_or nodes' e 0 ≡ label_nodes (suc e) (take at fleet)
  pub holders_are : (e : ℕ) → e < most_label → get_or holders' e 0 ≡ label_holders (suc e) done

pub all_start : {fleet nodes holders : List ℕ} → AddAllInput fleet nodes holders → AllTo fleet nodes holders 0 1 nodes holders
unfolding label_nodes label_holders
all_start a = record {
  within = omega arith;
  input = a;
  done = [];
  joined = refl;
  number = refl;
  rest = rest_same;
  nodes_are = a.no_nodes;
  holders_are = a.no_holders;
}

module _ {fleet nodes holders : List ℕ} {at vehicle : ℕ} {nodes' holders' : List ℕ} (a : AllTo fleet nodes holders at vehicle nodes' holders') where
  pub all_end : length fleet ≤ at → AllAdded fleet nodes holders nodes' holders'
  unfolding vehicles
  all_end h = record {
    nodes_are = whole nodes' nodes _ a.rest.nodes_rest
        (entries_are (λ label. label_nodes label fleet) most_label 1 nodes' (omega (arith, a.rest.as_long, a.input.all_nodes))
        (λ e b. a.nodes_are e b ∙ ap (label_nodes (suc e)) (take_all at fleet h) ∙ ap (λ (n : ℕ). label_nodes n fleet) (omega arith)));
    holders_are = whole holders' holders _ a.rest.holders_rest
        (entries_are (λ label. label_holders label (vehicles fleet)) most_label 1 holders' (omega (arith, a.rest.as_long_too, a.input.all_holders))
        (λ e b. a.holders_are e b ∙ ap (label_holders (suc e)) (sym all_done) ∙ ap (λ (n : ℕ). label_holders n (vehicles fleet)) (omega arith)));
  }
    where
      all_done : vehicles fleet ≡ a.done
      all_done = a.joined ∙ ap (λ (s : List ℕ). a.done ++ vehicles s) (drop_of_length-le fleet {i = at} h) ∙ append-nil a.done

      whole : (l l₀ first : List ℕ) → drop most_label l ≡ drop most_label l₀ → take most_label l ≡ first → l ≡ first ++ drop most_label l₀
      whole l l₀ first d t = sym (take-append-drop most_label l) ∙ ap (λ (s : List ℕ). s ++ drop most_label l) t ∙ ap (λ (s : List ℕ). first ++ s) d

  module _ {end : ℕ} (e : EndsAt fleet at end) where
    abbrev tree : List ℕ
    tree = stretch fleet at end

    joined_more : vehicles fleet ≡ a.done ++ tree ∷ vehicles (drop end fleet)
    joined_more = a.joined ∙ ap (λ (trees : List (List ℕ)). a.done ++ trees) (one_more fleet at end e)

    room : suc (length a.done) ≤ length (vehicles fleet)
    room = omega (arith, ap length joined_more, length-append a.done (tree ∷ vehicles (drop end fleet)))

    is_vehicle : IsVehicle tree
    is_vehicle = rw (ap (λ (trees : List (List ℕ)). get_or trees (length a.done) []) joined_more ∙ get_or_at a.done tree (vehicles (drop end fleet)) [] (length a.done) refl)
        at (a.input.is_fleet.each (length a.done) room)

    nodes_more : (label : ℕ) → label_nodes label (take end fleet) ≡ label_nodes label (take at fleet) + label_nodes label tree
    nodes_more label =
        let to : end ≡ at + (end - at) = omega (arith, e.after) in
        ap (λ (n : ℕ). label_nodes label (take n fleet)) to ∙ ap (label_nodes label) (take-add at (end - at) fleet) ∙ nodes_append label (take at fleet) tree

    pub all_add : AddInput tree vehicle nodes' holders'
    all_add = record {
      input = record {
        is_number = (omega (arith, a.number), omega (arith, a.number, room, a.input.is_fleet.trees));
        labelled = λ i h. (is_vehicle.is_tree.pairs i h).label_from_1;
        all_nodes = omega (arith, a.rest.as_long, a.input.all_nodes);
        all_holders = omega (arith, a.rest.as_long_too, a.input.all_holders);
      };
      few = λ k b. omega (arith, a.nodes_are k b, nodes_more (suc k), nodes_of_first (suc k) fleet end, nodes_few (suc k) fleet, a.input.is_fleet.nodes);
    }

    pub all_on : {nodes'' holders'' : List ℕ} → Added tree vehicle nodes' holders' nodes'' holders'' → AllTo fleet nodes holders end (vehicle + 1) nodes'' holders''
    all_on {nodes''} {holders''} d = record {
      within = e.within;
      input = a.input;
      done = a.done ++ tree ∷ [];
      joined = joined_more ∙ sym (append_assoc a.done (tree ∷ []) (vehicles (drop end fleet)));
      number = omega (arith, a.number, length-append a.done (tree ∷ []));
      rest = record {
        as_long = d.rest.as_long ∙ a.rest.as_long;
        as_long_too = d.rest.as_long_too ∙ a.rest.as_long_too;
        nodes_rest = d.rest.nodes_rest ∙ a.rest.nodes_rest;
        holders_rest = d.rest.holders_rest ∙ a.rest.holders_rest;
      };
      nodes_are = λ k b. omega (arith, d.nodes_are k b, a.nodes_are k b, nodes_more (suc k));
      holders_are = λ k b. d.holders_are k b ∙ ap (λ (s : ℕ). choose (dec_le 1 (label_nodes (suc k) tree)) (with vehicle s) s) (a.holders_are k b)
          ∙ ap (λ (v : ℕ). choose (dec_le 1 (label_nodes (suc k) tree)) (with v (label_holders (suc k) a.done)) (label_holders (suc k) a.done)) a.number
          ∙ sym (holders_more (suc k) a.done tree);
    }
