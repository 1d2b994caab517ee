-- Source document 000, section 3.3.1: occurrence-matched. A leaf that a pattern can have more wherever it occurs, so that it occurs as often.
use Rattle.std.specs.Prelude.{◌≡◌, Option, IfSome, List, ℕ, ◌%◌, ◌≤◌, ◌<◌, length, get_or}
use Rattle.terms.specs.Tree.{depthAt, IsTree, IsParent}
use Rattle.terms.specs.Fleet.{IsFleet}
use Rattle.matching.specs.Limits.{most_nodes_of_a_pattern}
use Rattle.rightmost.specs.Ends.{PlacedAt, OnBranch, children, NewChild}
use Rattle.rightmost.specs.PlaceList.{Places}
use Rattle.index.specs.Index.{Parents, Sizes}

-- "for each occurrence of t there is at least one corresponding occurrence of t'": wherever a placing puts node b of the pattern, there are more
-- children of the pair's label than b has, so that the pattern with the leaf x below b can be placed there too (`leftover_child_claim`).
pub record OccurrenceMatched (fleet pattern : List ℕ) (x b : ℕ) : Type 0 where
  pub new_child : NewChild pattern x b
  pub everywhere : (d : ℕ) → PlacedAt pattern fleet b d → children pattern b (x % 1000) < children fleet d (x % 1000)

-- The pair, if there is one, is that of such a leaf, below some node of the branch.
abbrev pub MatchedBy : (fleet pattern : List ℕ) → Option ℕ → Type 0
MatchedBy fleet pattern leaf = IfSome leaf (λ x. (b : ℕ) × OccurrenceMatched fleet pattern x b)

-- From one position up to another no pair is this one.
abbrev pub Lacks : (pairs : List ℕ) (pair from to : ℕ) → Type 0
Lacks pairs pair from to = (i : ℕ) → from ≤ i → i < to → ¬ (get_or pairs i 0 ≡ pair)

-- Each of the nodes has more children of the label than so many.
abbrev pub LeftEverywhere : (fleet nodes : List ℕ) (label own : ℕ) → Type 0
LeftEverywhere fleet nodes label own = (i : ℕ) → i < length nodes → own < children fleet (get_or nodes i 0) label

-- Nodes of a fleet, and a label.
pub record NodesToAsk (fleet sizes nodes : List ℕ) (label : ℕ) : Type 0 where
  pub is_fleet : IsFleet fleet
  pub has_sizes : Sizes fleet sizes
  pub inside : (i : ℕ) → i < length nodes → get_or nodes i 0 < length fleet
  pub label_small : label < 1000

-- A list that begins with so many nodes of a fleet, none of them a root.
pub record NodesToRise (fleet parents nodes : List ℕ) (count : ℕ) : Type 0 where
  pub has_parents : Parents fleet parents
  pub there : count ≤ length nodes
  pub inside : (i : ℕ) → i < count → get_or nodes i 0 < length fleet
  pub deep : (i : ℕ) → i < count → 1 ≤ depthAt fleet (get_or nodes i 0)

-- The first `left` of the nodes are the parents of the first `count` of the old ones.
pub record Risen (fleet old : List ℕ) (count : ℕ) (nodes : List ℕ) (left : ℕ) : Type 0 where
  pub some : 1 ≤ count → 1 ≤ left
  pub no_more : left ≤ count
  pub each : (m : ℕ) → m < left → (i : ℕ) × (i < count) × IsParent fleet (get_or nodes m 0) (get_or old i 0)
  pub none_missing : (i d : ℕ) → i < count → IsParent fleet d (get_or old i 0) → (m : ℕ) × (m < left) × (get_or nodes m 0 ≡ d)

-- A pattern with the places of its last node, and the fleet's tables.
pub record PatternToAsk (pattern fleet parents sizes places : List ℕ) : Type 0 where
  pub is_fleet : IsFleet fleet
  pub has_parents : Parents fleet parents
  pub has_sizes : Sizes fleet sizes
  pub is_tree : IsTree pattern
  pub few : length pattern ≤ most_nodes_of_a_pattern
  pub are : Places pattern fleet places

-- A node b of a pattern's branch, and the nodes of the fleet where it is placed: just these, and one at least.
pub record NodeToAsk (pattern : List ℕ) (b : ℕ) (fleet sizes nodes : List ℕ) : Type 0 where
  pub is_fleet : IsFleet fleet
  pub has_sizes : Sizes fleet sizes
  pub is_tree : IsTree pattern
  pub few : length pattern ≤ most_nodes_of_a_pattern
  pub on_branch : OnBranch pattern (depthAt pattern b) b
  pub some : 0 < length nodes
  pub each : (i : ℕ) → i < length nodes → PlacedAt pattern fleet b (get_or nodes i 0)
  pub none_missing : (d : ℕ) → PlacedAt pattern fleet b d → (i : ℕ) × (i < length nodes) × (get_or nodes i 0 ≡ d)
