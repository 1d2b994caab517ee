-- What is claimed of sets of vehicles: the operations do to the members what they say, and a set is known by its members. `MemberOfWith` is proved as
-- `member_of_with`, and so on: Claims of proofs/.
use Rattle.std.specs.Prelude.{◌≡◌, ◌↔◌, ◌⊎◌, ℕ, suc, ◌^◌, ◌<◌}
use Rattle.terms.specs.Fleet.{most_trees}
use Rattle.sets.specs.Sets.{IsVehicleNumber, Member, with, without, size}

-- Nobody is in the empty set.
abbrev pub MemberOfNone : Type 0
MemberOfNone = (vehicle : ℕ) → ¬ Member vehicle 0

-- In the set with v are v and whoever was in the set; in the set without v whoever was in it, but not v.
abbrev pub MemberOfWith : Type 0
MemberOfWith = (v set u : ℕ) → IsVehicleNumber v → IsVehicleNumber u → Member u (with v set) ↔ ((u ≡ v) ⊎ Member u set)

abbrev pub MemberOfWithout : Type 0
MemberOfWithout = (v set u : ℕ) → IsVehicleNumber v → IsVehicleNumber u → Member u (without v set) ↔ ((¬ (u ≡ v)) × Member u set)

-- Both are sets again: numbers of 64 bits.
abbrev pub SetsAgain : Type 0
SetsAgain = (v set : ℕ) → IsVehicleNumber v → set < 2 ^ most_trees → (with v set < 2 ^ most_trees) × (without v set < 2 ^ most_trees)

-- A set is known by its members.
abbrev pub KnownByMembers : Type 0
KnownByMembers = (set other : ℕ) → set < 2 ^ most_trees → other < 2 ^ most_trees → ((v : ℕ) → IsVehicleNumber v → Member v set ↔ Member v other) → set ≡ other

-- The size counts members: none in the empty set, and one more with a vehicle that was not in it.
abbrev pub SizeOfNone : Type 0
SizeOfNone = size 0 ≡ 0

abbrev pub SizeOfWith : Type 0
SizeOfWith = (v set : ℕ) → IsVehicleNumber v → ¬ Member v set → size (with v set) ≡ suc (size set)
