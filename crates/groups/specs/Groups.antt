-- What the functions that keep places in groups are given, and what they leave in the list.
use Rattle.std.specs.Prelude.{◌≡◌, ◌≢◌, List, [], ◌++◌, ℕ, ◌-◌, ◌%◌, ◌≤◌, ◌<◌, length, get_or, take}
use Rattle.std.proofs.Math.Seq.{slice}
use Rattle.terms.specs.Tree.{depthAt}
use Rattle.terms.specs.Fleet.{IsFleet, most_nodes}
use Rattle.rightmost.specs.Ends.{children}
use Rattle.index.specs.Index.{Parents, Sizes}

-- The parent of the place with this number in a list.
abbrev pub parent_of : (parents places : List ℕ) (i : ℕ) → ℕ
parent_of parents places i = get_or parents (get_or places i 0) 0

-- The parents of nodes, and a list of nodes.
pub record GroupsInput (parents places : List ℕ) : Type 0 where
  pub all : length parents ≡ most_nodes
  pub few : length places ≤ most_nodes
  pub each : (i : ℕ) → i < length places → get_or places i 0 < most_nodes

-- The place `low` has the parent of the place `first`, that at `high`, if there is one, has not.
pub record GroupWithin (parents places : List ℕ) (first low high : ℕ) : Type 0 where
  pub input : GroupsInput parents places
  pub from : first ≤ low
  pub order : low < high
  pub within : high ≤ length places
  pub same : parent_of parents places low ≡ parent_of parents places first
  pub other : high < length places → parent_of parents places high ≢ parent_of parents places first

-- The last place before `end` has the parent of the place `first`, the next has not. (In a list in order those between have it too.)
abbrev pub Group : (parents places : List ℕ) (first end : ℕ) → Type 0
Group parents places first end = GroupWithin parents places first (end - 1) end

-- Places from `first` to before `end`, and room for them behind the first `len` of another list.
pub record PartInput (places : List ℕ) (first end : ℕ) (list : List ℕ) (len : ℕ) : Type 0 where
  pub order : first ≤ end
  pub within : end ≤ length places
  pub few : length places ≤ most_nodes
  pub no_further : len ≤ first
  pub room : most_nodes ≤ length list

-- A node of a fleet that is no root, and the fleet's tables.
pub record NoRoot (fleet parents sizes : List ℕ) (node : ℕ) : Type 0 where
  pub is_fleet : IsFleet fleet
  pub has_parents : Parents fleet parents
  pub has_sizes : Sizes fleet sizes
  pub inside : node < length fleet
  pub deep : 1 ≤ depthAt fleet node

-- The same of a list of nodes.
pub record KeepInput (fleet parents sizes places : List ℕ) : Type 0 where
  pub groups : GroupsInput parents places
  pub each : (i : ℕ) → i < length places → NoRoot fleet parents sizes (get_or places i 0)

-- How many children of its parent have the label of the place with this number in a list.
abbrev pub siblings : (fleet parents places : List ℕ) (i : ℕ) → ℕ
siblings fleet parents places i = children fleet (parent_of parents places i) (get_or fleet (get_or places i 0) 0 % 1000)

-- Of the first n places, which are whole groups, the groups whose parent has more than `equal` such children.
pub data LargeGroups (fleet parents places : List ℕ) (equal : ℕ) : (n : ℕ) (members : List ℕ) → Type 0 where
  none : LargeGroups fleet parents places equal 0 []
  large : {n end : ℕ} {members : List ℕ} → Group parents places n end → equal < siblings fleet parents places n → LargeGroups fleet parents places equal n members → LargeGroups fleet parents places equal end (members ++ slice n end places)
  small : {n end : ℕ} {members : List ℕ} → Group parents places n end → siblings fleet parents places n ≤ equal → LargeGroups fleet parents places equal n members → LargeGroups fleet parents places equal end members

-- Those of all places are put at the front of a list.
pub record GroupsPut (fleet parents places : List ℕ) (equal : ℕ) (list list' : List ℕ) (end : ℕ) : Type 0 where
  pub same_length : length list' ≡ length list
  pub few : end ≤ length places
  pub are : LargeGroups fleet parents places equal (length places) (take end list')
