-- Where placings put the last node of a pattern (in preorder), and the rightmost branch of a pattern.
use Rattle.std.specs.Prelude.{◌≡◌, List, ℕ, zero, suc, ◌+◌, ◌-◌, ◌/◌, ◌≤◌, ◌<◌, length, get_or}
use Rattle.terms.specs.Tree.{depthAt, label_at, IsPair, IsTree, IsParent}
use Rattle.terms.specs.Assignment.{Covering, PartialMatching}
use Rattle.terms.specs.Placing.{Placing}
use Rattle.terms.proofs.Decide.{both?}
use Rattle.terms.proofs.TreeLaws.{parent?}
use Rattle.std.proofs.Math.Decide.{ℕ_discrete}
use Rattle.terms.specs.Fits.{Edge}
use Rattle.occurrence.specs.Support.{counted}
use Rattle.matching.specs.Limits.{most_nodes_of_a_pattern}

-- Some placing of the pattern in the tree puts the pattern's node at the place. (Both are positions, from 0. The "tree" may be any pairs,
-- also a whole fleet: its nodes below one another are those of one vehicle.)
pub record PlacedAt (pattern tree : List ℕ) (node place : ℕ) : Type 0 where
  pub tuple : List ℕ
  pub placing : Placing pattern tree tuple
  pub there : get_or tuple node 0 ≡ suc place

-- The same for two nodes at once.
pub record PlacedBoth (pattern tree : List ℕ) (node place other other_place : ℕ) : Type 0 where
  pub tuple : List ℕ
  pub placing : Placing pattern tree tuple
  pub there : get_or tuple node 0 ≡ suc place
  pub other_there : get_or tuple other 0 ≡ suc other_place

-- The same, and no node of the pattern is placed at `free`.
pub record PlacedBeside (pattern tree : List ℕ) (node place free : ℕ) : Type 0 where
  pub tuple : List ℕ
  pub placing : Placing pattern tree tuple
  pub there : get_or tuple node 0 ≡ suc place
  pub beside : (i : ℕ) → i < length pattern → ¬ (get_or tuple i 0 ≡ suc free)

abbrev pub last_of : List ℕ → ℕ
last_of s = length s - 1

-- Some placing puts the last node of the pattern at w: the nodes w are the W of the pattern.
abbrev pub LastPlace : (pattern tree : List ℕ) (w : ℕ) → Type 0
LastPlace pattern tree w = PlacedAt pattern tree (last_of pattern) w

-- d is the ancestor of a node, so many steps up.
pub data Up (s : List ℕ) (d : ℕ) : (steps node : ℕ) → Type 0 where
  itself : {w : ℕ} → w ≡ d → Up s d 0 w
  above : {k v w : ℕ} → IsParent s v w → Up s d k v → Up s d (suc k) w

-- b is the node of depth e on the rightmost branch: of the nodes of that depth, no more than the last node's, the last.
pub record OnBranch (s : List ℕ) (e b : ℕ) : Type 0 where
  pub inside : b < length s
  pub depth : depthAt s b ≡ e
  pub no_deeper : e ≤ depthAt s (last_of s)
  pub none_later : (k : ℕ) → b < k → k < length s → ¬ (depthAt s k ≡ e)

-- c is a child of b with this label.
abbrev pub IsChild : (s : List ℕ) (b label c : ℕ) → Type 0
IsChild s b label c = IsParent s b c × (label_at s c ≡ label)

unfoldable pub child? : (s : List ℕ) (b label c : ℕ) → Dec (IsChild s b label c)
unfolding both? parent? ℕ_discrete
child? s b label c = both? (parent? s b c) (ℕ_discrete (label_at s c) label)

-- How many of the numbers below n are so.
unfoldable pub count_below : {C : ℕ → Type 0} → ((i : ℕ) → Dec (C i)) → (n : ℕ) → ℕ
unfolding counted
count_below d zero = 0
count_below d (suc n) = counted (d n) + count_below d n

-- How many children of b have this label.
unfoldable pub children : (s : List ℕ) (b label : ℕ) → ℕ
children s b label = count_below (child? s b label) (length s)

-- The pair x may stand behind the pattern as a new child of b, which is on the rightmost branch.
pub record NewChild (pattern : List ℕ) (x b : ℕ) : Type 0 where
  pub is_tree : IsTree pattern
  pub is_pair : IsPair x
  pub on_branch : OnBranch pattern (depthAt pattern b) b
  pub one_deeper : x / 1000 ≡ suc (depthAt pattern b)

-- Those of L have places of their own at children of d, each where it fits, and none has the place `free`.
-- (`Edge pattern tree d c r`: r is a child of d where c, with all below it, fits.)
abbrev pub SeatedOf : (L : ℕ → Type 0) (pattern tree : List ℕ) (d free : ℕ) → Type 0
SeatedOf L pattern tree d free = Covering (λ c r. Edge pattern tree d c r × ¬ (r ≡ free)) L (length tree)

-- The children of b with this label have.
abbrev pub Seated : (pattern tree : List ℕ) (b d label free : ℕ) → Type 0
Seated pattern tree b d label free = SeatedOf (λ c. IsChild pattern b label c) pattern tree d free

-- c is an inner child of b with this label: it has children itself. (The first child of a node follows it.)
abbrev pub IsInner : (s : List ℕ) (b label c : ℕ) → Type 0
IsInner s b label c = IsChild s b label c × IsParent s c (suc c)

abbrev pub InnerSeated : (pattern tree : List ℕ) (b d label free : ℕ) → Type 0
InnerSeated pattern tree b d label free = SeatedOf (λ c. IsInner pattern b label c) pattern tree d free

-- All children of b with this label are leaves.
abbrev pub LeavesOnly : (s : List ℕ) (b label : ℕ) → Type 0
LeavesOnly s b label = (c i : ℕ) → IsChild s b label c → ¬ IsParent s c i

-- A matching of all that are to have a place (0: none).
pub record AllSeated (E : ℕ → ℕ → Type 0) (L : ℕ → Type 0) (places : List ℕ) : Type 0 where
  pub matching : PartialMatching E L places
  pub all : (x : ℕ) → L x → ¬ (get_or places x 0 ≡ 0)

-- The inner children of b with this label, and no others, have places among the children of d (0: none), each where it fits.
pub record InnerMatched (pattern : List ℕ) (b label : ℕ) (tree : List ℕ) (d : ℕ) (places : List ℕ) : Type 0 where
  pub length_places : length places ≡ most_nodes_of_a_pattern
  pub matching : PartialMatching (Edge pattern tree d) (IsParent pattern b) places
  pub full : (y : ℕ) → IsInner pattern b label y → ¬ (get_or places y 0 ≡ 0)
  pub only : (y : ℕ) → ¬ (get_or places y 0 ≡ 0) → IsInner pattern b label y
