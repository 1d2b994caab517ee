-- What the matching functions are given and what they answer. `OccursInput` and `Measured` are what their callers show, in heaviest,
-- occurrence and seats; the rest is cited only by these functions and private ones. "A node fits if its children fit, and children fit if each
-- node does, all in different places."
use Rattle.std.specs.Prelude.{◌≡◌, ◌⊎◌, Bool, true, false, List, ℕ, suc, ◌+◌, ◌*◌, ◌/◌, ◌≤◌, ◌<◌, length, get_or, replicate}
use Rattle.terms.specs.Tree.{pair, IsParent, SubtreeEnd, depthAt, label_at, IsTree}
use Rattle.terms.specs.Fleet.{most_nodes_of_a_tree}
use Rattle.terms.specs.Fits.{Fits, Edge}
use Rattle.terms.specs.Assignment.{HeldByVisited, PartialMatching, Augmenting}
use Rattle.matching.specs.Limits.{most_nodes_of_a_pattern}

pub record OccursInput (pattern tree : List ℕ) : Type 0 where
  pub pattern_is_tree : IsTree pattern
  pub tree_is_tree : IsTree tree
  pub pattern_nodes : length pattern ≤ most_nodes_of_a_pattern
  pub tree_nodes : length tree ≤ most_nodes_of_a_tree

-- How many nodes follow each node in its subtree. Zeros are right too, where that is not measured: they skip nothing. If the root's is not 0,
-- all are measured.
pub record Measured (tree sizes : List ℕ) : Type 0 where
  pub all : length tree ≤ length sizes
  pub small : (d : ℕ) → d < length tree → get_or sizes d 0 ≤ 255
  pub below : (d m : ℕ) → d < length tree → d < m → m ≤ d + get_or sizes d 0 → depthAt tree d < depthAt tree m
  pub ends : 0 < get_or sizes 0 0 → (d : ℕ) → d < length tree → SubtreeEnd tree d (d + 1 + get_or sizes d 0)

-- So many nodes follow pattern node i in its subtree; 0 will do where the tree is not measured.
pub data LeastSize (p : List ℕ) (i : ℕ) (sizes : List ℕ) (size : ℕ) : Type 0 where
  unmeasured : size ≡ 0 → LeastSize p i sizes size
  as_many : 0 < get_or sizes 0 0 → SubtreeEnd p i (i + 1 + size) → LeastSize p i sizes size

-- Pattern node i, and data node d of the same label, where it may be placed.
pub record NodeAndImage (p : List ℕ) (i : ℕ) (q : List ℕ) (d : ℕ) : Type 0 where
  pub trees : OccursInput p q
  pub node : i < length p
  pub image : d < length q
  pub same_label : label_at p i ≡ label_at q d

pub record FitsInput (p : List ℕ) (i : ℕ) (q : List ℕ) (d : ℕ) (places : List ℕ) : Type 0 where
  pub nodes : NodeAndImage p i q d
  pub none_placed : places ≡ replicate most_nodes_of_a_pattern 0

-- All children of i have places among the children of d: `get_or places x 0` is that of x; 0 is no child's place.
pub record AllMatched (p : List ℕ) (i : ℕ) (q : List ℕ) (d : ℕ) (places : List ℕ) : Type 0 where
  pub length_places : length places ≡ most_nodes_of_a_pattern
  pub matching : PartialMatching (Edge p q d) (IsParent p i) places
  pub full : (y : ℕ) → IsParent p i y → ¬ (get_or places y 0 ≡ 0)

pub data FitsOutcome (p : List ℕ) (i : ℕ) (q : List ℕ) (d : ℕ) (places : List ℕ) : Bool → Type 0 where
  fit : Fits p q i d → AllMatched p i q d places → FitsOutcome p i q d places true
  unfit : ¬ Fits p q i d → FitsOutcome p i q d places false

-- The children of i are being matched with children of d, and x is to get a place.
-- Those with `get_or visited y false` were moved or tried already on the way to x.
pub record AugmentInput (p : List ℕ) (i x : ℕ) (q : List ℕ) (d : ℕ) (places : List ℕ) (visited : List Bool) : Type 0 where
  pub nodes : NodeAndImage p i q d
  pub child : IsParent p i x
  pub matching : PartialMatching (Edge p q d) (IsParent p i) places
  pub length_places : length places ≡ most_nodes_of_a_pattern
  pub length_marks : length visited ≡ most_nodes_of_a_pattern
  pub new : get_or visited x false ≡ false

abbrev pub AugmentOutcome : List ℕ → ℕ → ℕ → List ℕ → ℕ → List ℕ → List Bool → List ℕ → List Bool → Bool → Type 0
AugmentOutcome p i x q d places visited places' visited' r = Augmenting (Edge p q d) (IsParent p i) (length q) x visited places visited' places' r

-- Which pattern node holds place r: the two numbers after those of pattern nodes if none does (`NOBODY`), and if one that was visited does (`VISITED`).
pub data HolderIs (places : List ℕ) (visited : List Bool) (r o : ℕ) : Type 0 where
  nobody : o ≡ most_nodes_of_a_pattern → ((x : ℕ) → ¬ (get_or places x 0 ≡ r)) → HolderIs places visited r o
  one_visited : o ≡ suc most_nodes_of_a_pattern → HeldByVisited visited places r → HolderIs places visited r o
  one : o < most_nodes_of_a_pattern → get_or places o 0 ≡ r → get_or visited o false ≡ false → HolderIs places visited r o

-- The pair of a child of d that has x's label.
abbrev pub pair_wanted : (p : List ℕ) (x : ℕ) (q : List ℕ) (d : ℕ) → ℕ
pair_wanted p x q d = pair (suc (depthAt q d)) (label_at p x)

-- The least pair below d.
abbrev pub least_below : (q : List ℕ) (d : ℕ) → ℕ
least_below q d = (get_or q d 0 / 1000 + 1) * 1000

-- Children of d that are the pair w are looked for after e, which is one of d's children or d itself.
pub record ScanInput (q : List ℕ) (d e w : ℕ) : Type 0 where
  pub tree : IsTree q
  pub nodes : length q ≤ most_nodes_of_a_tree
  pub inside : e < length q
  pub last : (d ≡ e) ⊎ IsParent q d e
  pub one_deeper : w / 1000 ≡ suc (depthAt q d)

-- The first child of d after e that is the pair w and has at least that size stands at r; where r is the length, there is none.
pub record NextChild (q sizes : List ℕ) (d e w size r : ℕ) : Type 0 where
  pub after : e < r
  pub within : r ≤ length q
  pub child : r < length q → IsParent q d r × (get_or q r 0 ≡ w) × (size ≤ get_or sizes r 0)
  pub none_between : (m : ℕ) → e < m → m < r → IsParent q d m → get_or q m 0 ≡ w → get_or sizes m 0 < size
