-- The last places of a pattern as a list, and how the list of the pattern with one pair more is made from it.
use Rattle.std.specs.Prelude.{◌≡◌, ◌⊎◌, List, ℕ, suc, ◌-◌, ◌%◌, ◌≤◌, ◌<◌, length, get_or}
use Rattle.terms.specs.Tree.{depthAt}
use Rattle.rightmost.specs.Ends.{LastPlace, last_of, Up, IsChild, Seated}

-- The order of places: by the ancestor k steps up (the place of the root), then by the node itself.
pub record Before (s : List ℕ) (k v w : ℕ) : Type 0 where
  pub root_v : ℕ
  pub root_w : ℕ
  pub up_v : Up s root_v k v
  pub up_w : Up s root_w k w
  pub order : (root_v < root_w) ⊎ ((root_v ≡ root_w) × (v < w))

-- The nodes listed come in that order (so none comes twice).
abbrev pub InOrder : (s : List ℕ) (k : ℕ) (places : List ℕ) → Type 0
InOrder s k places = (i j : ℕ) → i < j → j < length places → Before s k (get_or places i 0) (get_or places j 0)

-- The list of all last places of a pattern.
pub record Places (pattern tree places : List ℕ) : Type 0 where
  pub each : (i : ℕ) → i < length places → LastPlace pattern tree (get_or places i 0)
  pub none_missing : (w : ℕ) → LastPlace pattern tree w → (i : ℕ) × (i < length places) × (get_or places i 0 ≡ w)
  pub in_order : InOrder tree (depthAt pattern (last_of pattern)) places

-- The children of d where a new child x of b can be placed, rising.
pub record Kids (pattern tree : List ℕ) (b d label : ℕ) (kids : List ℕ) : Type 0 where
  pub each : (i : ℕ) → i < length kids → IsChild tree d label (get_or kids i 0) × Seated pattern tree b d label (get_or kids i 0)
  pub none_missing : (w : ℕ) → IsChild tree d label w → Seated pattern tree b d label w → (i : ℕ) × (i < length kids) × (get_or kids i 0 ≡ w)
  pub rising : (i j : ℕ) → i < j → j < length kids → get_or kids i 0 < get_or kids j 0

-- All children of d with the label, rising.
pub record Rising (tree : List ℕ) (d label : ℕ) (kids : List ℕ) : Type 0 where
  pub each : (i : ℕ) → i < length kids → IsChild tree d label (get_or kids i 0)
  pub none_missing : (w : ℕ) → IsChild tree d label w → (i : ℕ) × (i < length kids) × (get_or kids i 0 ≡ w)
  pub rising : (i j : ℕ) → i < j → j < length kids → get_or kids i 0 < get_or kids j 0

-- The numbers below a limit that are so, rising.
pub record ListedTo (G : ℕ → Type 0) (next : ℕ) (list : List ℕ) : Type 0 where
  pub each : (i : ℕ) → i < length list → (get_or list i 0 < next) × G (get_or list i 0)
  pub none_missing : (w : ℕ) → w < next → G w → (i : ℕ) × (i < length list) × (get_or list i 0 ≡ w)
  pub rising : (i j : ℕ) → i < j → j < length list → get_or list i 0 < get_or list j 0

-- How many steps from the last node up to b.
abbrev pub steps_to : List ℕ → ℕ → ℕ
steps_to pattern b = depthAt pattern (last_of pattern) - depthAt pattern b

-- The new places that come from the first n of the old ones.
pub record PlacesFrom (pattern : List ℕ) (x b : ℕ) (tree old : List ℕ) (n : ℕ) (new : List ℕ) : Type 0 where
  pub each : (m : ℕ) → m < length new → (k d : ℕ) × (k < n) × Up tree d (steps_to pattern b) (get_or old k 0) × IsChild tree d (x % 1000) (get_or new m 0) × Seated pattern tree b d (x % 1000) (get_or new m 0)
  pub none_missing : (k d w : ℕ) → k < n → Up tree d (steps_to pattern b) (get_or old k 0) → IsChild tree d (x % 1000) w → Seated pattern tree b d (x % 1000) w → (m : ℕ) × (m < length new) × (get_or new m 0 ≡ w)
  pub in_order : InOrder tree (suc (depthAt pattern b)) new

-- Exactly so many of the numbers below a limit are so.
pub data HowMany (N : ℕ → Type 0) : (limit count : ℕ) → Type 0 where
  none : HowMany N 0 0
  one_more : {n c : ℕ} → N n → HowMany N n c → HowMany N (suc n) (suc c)
  not_this : {n c : ℕ} → ¬ N n → HowMany N n c → HowMany N (suc n) c

-- A count kept while numbers come that never fall: `last` is the one that came last, 0 for none; N n: n has come.
pub record Tally (N : ℕ → Type 0) (limit last count : ℕ) : Type 0 where
  pub counted : HowMany N limit count
  pub none_above : (n : ℕ) → N n → n ≤ last
  pub from_1 : (n : ℕ) → N n → 1 ≤ n
  pub last_came : 1 ≤ last → N last
