-- The rules 5, 7 and 9 on the numbers that a reader keeps (`ReaderOf`). That they are the rules on the nodes read so far is in proofs/ReaderSteps.
use Rattle.std.specs.Prelude.{◌≡◌, List, ℕ, ◌-◌, ◌≤◌, ◌<◌, get_or}
use Rattle.fleet.specs.declared.reader.Reader.{Reader}
use Rattle.terms.specs.Fleet.{family, MayStandUnder, most_trees, most_nodes_of_a_tree, most_nodes, most_depth}

abbrev pub DepthFits : (nodes deeper depth : ℕ) → Type 0
DepthFits nodes deeper depth = (nodes ≡ 0 → depth ≡ 0) × ((1 ≤ nodes → depth ≤ deeper) × (depth ≤ most_depth))

abbrev pub FamilyFits : (families : List ℕ) (depth label : ℕ) → Type 0
FamilyFits families depth label = (depth ≡ 0 → family label ≡ 1) × (1 ≤ depth → MayStandUnder (family label) (get_or families (depth - 1) 0))

abbrev pub RoomLeft : (nodes trees in_tree depth : ℕ) → Type 0
RoomLeft nodes trees in_tree depth = (depth ≡ 0 → trees < most_trees) × ((1 ≤ depth → in_tree < most_nodes_of_a_tree) × (nodes < most_nodes))

-- What of the rules a reader needs to take a node in, whatever it keeps.
pub record MayCome (reader : Reader) (depth label : ℕ) : Type 0 where
  pub depth_fits : DepthFits reader.nodes reader.deeper depth
  pub label_to_999 : label ≤ 999
  pub room_left : RoomLeft reader.nodes reader.trees reader.in_tree depth
