-- What joins a register with a tree, and what leaves it: for the functions that keep a register, tree by tree.
use Rattle.std.specs.Prelude.{◌≡◌, List, ◌++◌, ℕ, suc, ◌+◌, ◌-◌, ◌≤◌, ◌<◌, length, get_or, drop}
use Rattle.std.proofs.Math.Decide.{dec_le}
use Rattle.terms.specs.Tree.{label_at}
use Rattle.terms.specs.Fleet.{most_nodes, IsFleet}
use Rattle.terms.proofs.Decide.{choose}
use Rattle.sets.specs.Sets.{IsVehicleNumber, with, without}
use Rattle.register.specs.Register.{most_label, label_nodes, register_nodes, register_holders}

-- Entries for all labels, and a vehicle's tree, every node of it with a label.
pub record TreeInput (tree : List ℕ) (vehicle : ℕ) (nodes holders : List ℕ) : Type 0 where
  pub is_number : IsVehicleNumber vehicle
  pub labelled : (i : ℕ) → i < length tree → 1 ≤ label_at tree i
  pub all_nodes : most_label ≤ length nodes
  pub all_holders : most_label ≤ length holders

-- There is room for the tree's nodes.
pub record AddInput (tree : List ℕ) (vehicle : ℕ) (nodes holders : List ℕ) : Type 0 where
  pub input : TreeInput tree vehicle nodes holders
  pub few : (e : ℕ) → e < most_label → get_or nodes e 0 + label_nodes (suc e) tree ≤ most_nodes

-- The tree's nodes are among those counted.
pub record TakeInput (tree : List ℕ) (vehicle : ℕ) (nodes holders : List ℕ) : Type 0 where
  pub input : TreeInput tree vehicle nodes holders
  pub enough : (e : ℕ) → e < most_label → label_nodes (suc e) tree ≤ get_or nodes e 0

-- Nothing past the last label's entry changes.
pub record RestKept (nodes holders nodes' holders' : List ℕ) : Type 0 where
  pub as_long : length nodes' ≡ length nodes
  pub as_long_too : length holders' ≡ length holders
  pub nodes_rest : drop most_label nodes' ≡ drop most_label nodes
  pub holders_rest : drop most_label holders' ≡ drop most_label holders

-- The tree's nodes are counted, and the vehicle is in the sets of its labels; all other entries stay.
pub record Added (tree : List ℕ) (vehicle : ℕ) (nodes holders nodes' holders' : List ℕ) : Type 0 where
  pub rest : RestKept nodes holders nodes' holders'
  pub nodes_are : (e : ℕ) → e < most_label → get_or nodes' e 0 ≡ get_or nodes e 0 + label_nodes (suc e) tree
  pub holders_are : (e : ℕ) → e < most_label → get_or holders' e 0 ≡ choose (dec_le 1 (label_nodes (suc e) tree)) (with vehicle (get_or holders e 0)) (get_or holders e 0)

-- The tree's nodes are counted no more, and the vehicle is in the set of none of its labels; all other entries stay.
pub record Taken (tree : List ℕ) (vehicle : ℕ) (nodes holders nodes' holders' : List ℕ) : Type 0 where
  pub rest : RestKept nodes holders nodes' holders'
  pub nodes_are : (e : ℕ) → e < most_label → get_or nodes' e 0 ≡ get_or nodes e 0 - label_nodes (suc e) tree
  pub holders_are : (e : ℕ) → e < most_label → get_or holders' e 0 ≡ choose (dec_le 1 (label_nodes (suc e) tree)) (without vehicle (get_or holders e 0)) (get_or holders e 0)

-- No node is counted, and nobody is in a set.
pub record Cleared (nodes holders nodes' holders' : List ℕ) : Type 0 where
  pub rest : RestKept nodes holders nodes' holders'
  pub no_nodes : (e : ℕ) → e < most_label → get_or nodes' e 0 ≡ 0
  pub no_holders : (e : ℕ) → e < most_label → get_or holders' e 0 ≡ 0

-- A fleet, and a register of nothing.
pub record AddAllInput (fleet nodes holders : List ℕ) : Type 0 where
  pub is_fleet : IsFleet fleet
  pub all_nodes : most_label ≤ length nodes
  pub all_holders : most_label ≤ length holders
  pub no_nodes : (e : ℕ) → e < most_label → get_or nodes e 0 ≡ 0
  pub no_holders : (e : ℕ) → e < most_label → get_or holders e 0 ≡ 0

-- The register of the fleet.
pub record AllAdded (fleet nodes holders nodes' holders' : List ℕ) : Type 0 where
  pub nodes_are : nodes' ≡ register_nodes fleet ++ drop most_label nodes
  pub holders_are : holders' ≡ register_holders fleet ++ drop most_label holders
