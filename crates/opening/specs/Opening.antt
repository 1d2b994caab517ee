-- What is known of the memory and the fleet's tables on the way through `read`.
use Rattle.std.specs.Prelude.{◌≡◌, List, ℕ, ◌≤◌, length, take}
use Rattle.terms.specs.Fleet.{IsFleet}
use Rattle.index.specs.Index.{Indexed}

-- The first nodes of the memory, if there are any, are a fleet.
pub record Read (memory : List ℕ) (nodes : ℕ) : Type 0 where
  pub within : nodes ≤ length memory
  pub is_fleet : 1 ≤ nodes → IsFleet (take nodes memory)

-- The tables of a fleet of so many nodes are made; of none, they are as they were.
pub record IndexMade (fleet : List ℕ) (nodes : ℕ) (before after : List ℕ × List ℕ × List ℕ) : Type 0 where
  pub some : 1 ≤ nodes → Indexed fleet after.0 after.1 after.2
  pub none : nodes ≡ 0 → after ≡ before
