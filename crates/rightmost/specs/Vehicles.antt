-- The vehicles of a fleet by positions, and what a place tells of them.
use Rattle.std.specs.Prelude.{◌≡◌, List, [], ℕ, suc, ◌-◌, ◌%◌, ◌≤◌, ◌<◌, length, get_or}
use Rattle.terms.specs.Tree.{depthAt}
use Rattle.terms.specs.Fleet.{vehicles}
use Rattle.vehicles.specs.Vehicle.{EndsAt, stretch}
use Rattle.rightmost.specs.Ends.{LastPlace, last_of, Up, children}

-- A vehicle's tree stands from a to before e.
pub record Vehicle (s : List ℕ) (a e : ℕ) : Type 0 where
  pub starts : depthAt s a ≡ 0
  pub ends : EndsAt s a e

-- A table gives each node of the fleet the number of its vehicle, from 1.
pub record VehicleNumbered (fleet table : List ℕ) (i : ℕ) : Type 0 where
  pub start : ℕ
  pub end : ℕ
  pub stands : Vehicle fleet start end
  pub tree : get_or (vehicles fleet) i [] ≡ stretch fleet start end
  pub has : (w : ℕ) → start ≤ w → w < end → get_or table w 0 ≡ suc i
  pub only : (w : ℕ) → w < length fleet → get_or table w 0 ≡ suc i → (start ≤ w) × (w < end)

pub record VehiclesNumbered (fleet table : List ℕ) : Type 0 where
  pub each : (i : ℕ) → i < length (vehicles fleet) → VehicleNumbered fleet table i
  pub covers : (w : ℕ) → w < length fleet → (i : ℕ) × (i < length (vehicles fleet)) × (get_or table w 0 ≡ suc i)
  pub rising : (v w : ℕ) → v ≤ w → w < length fleet → get_or table v 0 ≤ get_or table w 0

-- w, a last place of the pattern, has at b's depth an ancestor with a child to spare for the pair x.
pub record Spare (pattern : List ℕ) (x b : ℕ) (tree : List ℕ) (w : ℕ) : Type 0 where
  pub d : ℕ
  pub last_place : LastPlace pattern tree w
  pub up : Up tree d (depthAt pattern (last_of pattern) - depthAt pattern b) w
  pub more : children pattern b (x % 1000) < children tree d (x % 1000)

-- A vehicle with this number has such a last place.
pub record Noted (pattern : List ℕ) (x b : ℕ) (fleet table : List ℕ) (number : ℕ) : Type 0 where
  pub place : ℕ
  pub spare : Spare pattern x b fleet place
  pub in_vehicle : get_or table place 0 ≡ number

-- Of the first n places in a list one in this vehicle is such.
pub record NotedFrom (pattern : List ℕ) (x b : ℕ) (fleet table places : List ℕ) (n number : ℕ) : Type 0 where
  pub index : ℕ
  pub among : index < n
  pub spare : Spare pattern x b fleet (get_or places index 0)
  pub in_vehicle : get_or table (get_or places index 0) 0 ≡ number
