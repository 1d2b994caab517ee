-- What a node of the fleet has left over beside a pattern's node, and the largest count of a table.
use Rattle.std.specs.Prelude.{◌≡◌, ◌⊎◌, List, ℕ, ◌+◌, ◌*◌, ◌%◌, ◌≤◌, ◌<◌, length, get_or}
use Rattle.terms.specs.Tree.{IsParent}
use Rattle.rightmost.specs.Ends.{children}
use Rattle.noting.specs.Noting.{PlaceToNote}

-- d has more children of the pair's label than the pattern's node, of which a table over the pairs tells (see `leftover_child_claim`).
pub record Leftover (fleet own : List ℕ) (d x : ℕ) : Type 0 where
  pub more : get_or own x 0 < children fleet d (x % 1000)

-- The two tables have an entry for the pair of every child of d; `above` is 1,000 for each of some levels.
pub record OwnRoom (fleet own last : List ℕ) (d above : ℕ) : Type 0 where
  pub levels : ℕ
  pub whole : above ≡ levels * 1000
  pub in_own : (x c : ℕ) → IsParent fleet d c → get_or fleet c 0 ≡ x + above → x < length own
  pub in_last : (x c : ℕ) → IsParent fleet d c → get_or fleet c 0 ≡ x + above → x < length last

-- A place of the pattern's last node to note so: the tables have an entry for every pair that a child of its ancestors along the branch may be.
pub record LeftoversToNote (fleet parents sizes own : List ℕ) (place depth number : ℕ) (seen counts last : List ℕ) : Type 0 where
  pub at : PlaceToNote (λ level. Leftover fleet own) fleet parents sizes place depth number seen counts last
  pub room : (depth + 2) * 1000 ≤ length own
  pub room_last : (depth + 2) * 1000 ≤ length last

-- The largest count of a table, 0 if nothing is counted.
pub record Most (counts : List ℕ) (most : ℕ) : Type 0 where
  pub reached : (most ≡ 0) ⊎ ((x : ℕ) × (get_or counts x 0 ≡ most))
  pub none_more : (x : ℕ) → get_or counts x 0 ≤ most
