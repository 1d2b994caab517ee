-- Document 01, "When the desk says no": the rows that several calls share.
use Rattle.std.specs.Prelude.{List, ℕ, ◌≤◌, length}
use Rattle.std.proofs.Math.Decide.{dec_le}
use Rattle.terms.specs.Refusal.{Rule}
use Rattle.terms.specs.Fleet.{IsFleet, vehicles}
use Rattle.terms.proofs.Decide.{within?}
use Rattle.terms.proofs.FleetLaws.{fleet?}

-- 10: "lent pairs that are no fleet as above"
abbrev pub fleet_rule : List ℕ → Rule
fleet_rule pairs = record { number = 10; Kept = IsFleet pairs; decide = fleet? pairs }

-- 16: "vehicle number 0 or above the fleet's"
abbrev pub vehicle_rule : (fleet : List ℕ) (vehicle : ℕ) → Rule
vehicle_rule fleet vehicle = record { number = 16; Kept = (1 ≤ vehicle) × (vehicle ≤ length (vehicles fleet)); decide = within? 1 vehicle (length (vehicles fleet)) }

-- 17: "output shorter than" what the call needs
abbrev pub output_rule : (needed : ℕ) (output : List ℕ) → Rule
output_rule needed output = record { number = 17; Kept = needed ≤ length output; decide = dec_le needed (length output) }
