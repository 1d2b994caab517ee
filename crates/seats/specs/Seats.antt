-- What the function is given that keeps the children of a place beside which others can sit, and what it leaves in the list.
use Rattle.std.specs.Prelude.{◌≡◌, List, ℕ, ◌≤◌, ◌<◌, length, get_or}
use Rattle.terms.specs.Fleet.{IsFleet, most_nodes}
use Rattle.matching.specs.Limits.{most_nodes_of_a_pattern}
use Rattle.rightmost.specs.Ends.{PlacedAt, NewChild, InnerSeated}
use Rattle.index.specs.Index.{Parents, Sizes}
use Rattle.groups.specs.Putting.{PutBehind}

-- d is a place of b, and x a new child of b.
pub record KidsInput (pattern : List ℕ) (x b : ℕ) (fleet parents sizes : List ℕ) (d : ℕ) : Type 0 where
  pub new_child : NewChild pattern x b
  pub few : length pattern ≤ most_nodes_of_a_pattern
  pub is_fleet : IsFleet fleet
  pub has_parents : Parents fleet parents
  pub has_sizes : Sizes fleet sizes
  pub placed : PlacedAt pattern fleet b d

-- The numbers that stand in the list from `len` to `end` are so, and rise.
pub record RisingIn (C : ℕ → Type 0) (list : List ℕ) (len end : ℕ) : Type 0 where
  pub order : len ≤ end
  pub few : end ≤ most_nodes
  pub room : most_nodes ≤ length list
  pub each : (i : ℕ) → len ≤ i → i < end → C (get_or list i 0)
  pub rising : (i j : ℕ) → len ≤ i → i < j → j < end → get_or list i 0 < get_or list j 0

-- Those of them that are S, rising.
pub record Kept (S : ℕ → Type 0) (list : List ℕ) (len end : ℕ) (kids : List ℕ) : Type 0 where
  pub each : (m : ℕ) → m < length kids → (i : ℕ) × (len ≤ i) × (i < end) × (get_or kids m 0 ≡ get_or list i 0) × S (get_or list i 0)
  pub none_missing : (i : ℕ) → len ≤ i → i < end → S (get_or list i 0) → (m : ℕ) × (m < length kids) × (get_or kids m 0 ≡ get_or list i 0)
  pub rising : (m n : ℕ) → m < n → n < length kids → get_or kids m 0 < get_or kids n 0

-- They alone stand behind the first `len` afterwards; past them what the list holds is free.
pub record KeptBehind (S : ℕ → Type 0) (list : List ℕ) (len end : ℕ) (list' : List ℕ) (end' : ℕ) : Type 0 where
  pub kids : List ℕ
  pub kept : Kept S list len end kids
  pub behind : PutBehind list len kids list' end'

-- The inner children of b with the label have places beside w, a child of d.
abbrev pub Beside : (pattern : List ℕ) (b label : ℕ) (tree : List ℕ) (d w : ℕ) → Type 0
Beside pattern b label tree d w = InnerSeated pattern tree b d label w
