-- What the private functions are given, and what they leave: seats in the tree of one vehicle.
use Rattle.std.specs.Prelude.{◌≡◌, Bool, true, List, ℕ, ◌-◌, ◌≤◌, ◌<◌, length, get_or}
use Rattle.terms.specs.Tree.{IsParent}
use Rattle.terms.specs.Assignment.{PartialMatching}
use Rattle.terms.specs.Fits.{Edge}
use Rattle.terms.specs.Fleet.{most_nodes}
use Rattle.matching.specs.Limits.{most_nodes_of_a_pattern}
use Rattle.matching.specs.FitsSteps.{OccursInput, Measured, NodeAndImage}
use Rattle.rightmost.specs.Ends.{PlacedAt, NewChild}
use Rattle.seats.specs.Seats.{Beside}

-- d is a place of b, and x a new child of b, in the tree of one vehicle.
pub record SeatInput (pattern : List ℕ) (x b : ℕ) (tree sizes : List ℕ) (d : ℕ) : Type 0 where
  pub trees : OccursInput pattern tree
  pub new_child : NewChild pattern x b
  pub measured : Measured tree sizes
  pub placed : PlacedAt pattern tree b d

-- Children of b have seats at children of d (0: none).
pub record LeaveInput (pattern : List ℕ) (b : ℕ) (tree sizes : List ℕ) (d : ℕ) (seats : List ℕ) : Type 0 where
  pub nodes : NodeAndImage pattern b tree d
  pub measured : Measured tree sizes
  pub length_seats : length seats ≡ most_nodes_of_a_pattern
  pub matching : PartialMatching (Edge pattern tree d) (IsParent pattern b) seats

-- The child has one.
pub record Holds (pattern seats : List ℕ) (child : ℕ) : Type 0 where
  pub inside : child < length pattern
  pub has : ¬ (get_or seats child 0 ≡ 0)

-- The seats that are left are those beside which the inner children of b with the label cannot sit; `some` is whether there are any.
pub record StuckSeats (pattern : List ℕ) (b label : ℕ) (tree : List ℕ) (d : ℕ) (seats : List ℕ) (some : Bool) : Type 0 where
  pub length_seats : length seats ≡ most_nodes_of_a_pattern
  pub root_none : get_or seats 0 0 ≡ 0
  pub these : (y : ℕ) → ¬ (get_or seats y 0 ≡ 0) → ¬ Beside pattern b label tree d (get_or seats y 0) × (some ≡ true)
  pub others : (w : ℕ) → 0 < w → ((y : ℕ) → ¬ (get_or seats y 0 ≡ w)) → Beside pattern b label tree d w

-- The same where d is a node of the tree that begins at `start`.
abbrev pub ChildFrom : (tree : List ℕ) (d start w : ℕ) → Type 0
ChildFrom tree d start w = (start ≤ w) × (w < most_nodes) × IsParent tree d (w - start)

abbrev pub BesideFrom : (pattern : List ℕ) (b label : ℕ) (tree : List ℕ) (d start w : ℕ) → Type 0
BesideFrom pattern b label tree d start w = Beside pattern b label tree d (w - start)
