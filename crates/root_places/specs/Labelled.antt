-- What the functions that list the nodes with a label tell, and what they leave in the list.
use Rattle.std.specs.Prelude.{◌≡◌, List, [], ◌∷◌, ℕ, ◌+◌, ◌-◌, ◌≤◌, ◌<◌, length, take}
use Rattle.terms.specs.Tree.{label_at, IsTree}
use Rattle.terms.specs.Fleet.{IsFleet, most_nodes}
use Rattle.rightmost.specs.PlaceList.{ListedTo}

-- No node of a stretch has the label.
abbrev pub NoneLabelled : (fleet : List ℕ) (label from stop : ℕ) → Type 0
NoneLabelled fleet label from stop = (w : ℕ) → from ≤ w → w < stop → ¬ (label_at fleet w ≡ label)

-- One node of a stretch has it, and no other.
pub record OnlyLabelled (fleet : List ℕ) (label from stop node : ℕ) : Type 0 where
  pub from_on : from ≤ node
  pub inside : node < stop
  pub has_it : label_at fleet node ≡ label
  pub only : (w : ℕ) → from ≤ w → w < stop → label_at fleet w ≡ label → w ≡ node

-- What a number tells of 16 nodes: 0 that none has the label, one from 16 to 31 which is the only one.
pub record GroupTold (fleet : List ℕ) (label from told : ℕ) : Type 0 where
  pub none : told ≡ 0 → NoneLabelled fleet label from (from + 16)
  pub one : 0 < told → told < 32 → (16 ≤ told) × OnlyLabelled fleet label from (from + 16) (from + told - 16)

-- The nodes before `node` that have the label, a root's, are the first `len` of the list; there is room for as many as the fleet has nodes.
pub record LabelledTo (label : ℕ) (fleet list : List ℕ) (len node : ℕ) : Type 0 where
  pub is_root : IsTree (label ∷ [])
  pub is_fleet : IsFleet fleet
  pub room : most_nodes ≤ length list
  pub within : node ≤ length fleet
  pub few : len ≤ node
  pub listed : ListedTo (λ w. label_at fleet w ≡ label) node (take len list)
