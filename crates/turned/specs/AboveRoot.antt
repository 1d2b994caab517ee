-- The vehicles that hold a pattern with a new root, told by the last places of the pattern: no placing of the larger tree is sought.
use Rattle.std.specs.Prelude.{◌≡◌, List, ℕ, suc, ◌<◌, get_or}
use Rattle.terms.specs.Tree.{depthAt, label_at}
use Rattle.rightmost.specs.Ends.{LastPlace, last_of, Up}

-- w is a last place of the pattern, and the node right above the root's place has this label.
pub record AboveRoot (pattern : List ℕ) (label : ℕ) (tree : List ℕ) (w : ℕ) : Type 0 where
  pub last_place : LastPlace pattern tree w
  pub node : ℕ
  pub up : Up tree node (suc (depthAt pattern (last_of pattern))) w
  pub has_label : label_at tree node ≡ label

-- A vehicle with this number has such a last place.
pub record RootNoted (pattern : List ℕ) (label : ℕ) (fleet table : List ℕ) (number : ℕ) : Type 0 where
  pub place : ℕ
  pub above_root : AboveRoot pattern label fleet place
  pub in_vehicle : get_or table place 0 ≡ number

-- Of the first n places in a list one in this vehicle is such.
pub record RootNotedFrom (pattern : List ℕ) (label : ℕ) (fleet table places : List ℕ) (n number : ℕ) : Type 0 where
  pub index : ℕ
  pub among : index < n
  pub above_root : AboveRoot pattern label fleet (get_or places index 0)
  pub in_vehicle : get_or table (get_or places index 0) 0 ≡ number
