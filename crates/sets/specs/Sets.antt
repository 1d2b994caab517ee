-- Document 02, "a label register beside the fleet": "a set, here and later, is a 64-bit number, vehicle 1 its lowest bit, vehicle 2 the next."
use Rattle.std.specs.Prelude.{◌≡◌, ℕ, ◌-◌, ◌*◌, ◌/◌, ◌%◌, ◌^◌, ◌≤◌}
use Rattle.std.specs.Int.Bits.{bit_or}
use Rattle.std.specs.Int.Count.{ones}
use Rattle.terms.specs.Fleet.{most_trees}

-- A vehicle's number: from 1, and at most 64.
abbrev pub IsVehicleNumber : (vehicle : ℕ) → Type 0
IsVehicleNumber vehicle = (1 ≤ vehicle) × (vehicle ≤ most_trees)

-- The vehicle's bit: 1, 2, 4, .. for the vehicles 1, 2, 3, ..
abbrev pub bit : (vehicle : ℕ) → ℕ
bit vehicle = 2 ^ (vehicle - 1)

-- The vehicle is in the set: its bit is 1.
abbrev pub Member : (vehicle set : ℕ) → Type 0
Member vehicle set = set / bit vehicle % 2 ≡ 1

-- The set and the vehicle; the set less the vehicle, if it is in it.
abbrev pub with : (vehicle set : ℕ) → ℕ
with vehicle set = bit_or set (bit vehicle)

abbrev pub without : (vehicle set : ℕ) → ℕ
without vehicle set = set - (set / bit vehicle % 2) * bit vehicle

-- How many vehicles are in the set: how many bits are 1.
abbrev pub size : (set : ℕ) → ℕ
size set = ones set
