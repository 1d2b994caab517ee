-- What the function that writes the heaviest placing is given, and what it leaves in the output.
use Rattle.std.specs.Prelude.{◌≡◌, Bool, true, false, List, ◌++◌, ℕ, ◌≤◌, length, drop}
use Rattle.terms.specs.Placing.{Occurs, HeaviestPlacing}
use Rattle.matching.specs.FitsSteps.{OccursInput}

pub record PlaceInput (p q output : List ℕ) : Type 0 where
  pub trees : OccursInput p q
  pub room : length p ≤ length output

-- The heaviest placing stands in front of the output, and nothing past it was written; or the pattern does not occur, and nothing was written.
pub data PlacingWritten (p q output output' : List ℕ) : Bool → Type 0 where
  placed : (tuple : List ℕ) → HeaviestPlacing p q tuple → output' ≡ tuple ++ drop (length tuple) output → PlacingWritten p q output output' true
  nowhere : ¬ Occurs p q → output' ≡ output → PlacingWritten p q output output' false
