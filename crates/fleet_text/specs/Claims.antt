-- The claim about the text of a fleet. It is proved under its name in lower case, in proofs/Claims.
use Rattle.std.specs.Prelude.{List, ℕ, ◌*◌, ◌≤◌, length}
use Rattle.terms.specs.Fleet.{IsFleet}
use Rattle.fleet_text.specs.FleetText.{fleet_text}

-- Seven bytes for each pair are enough, so `print` answers wherever it is lent as many.
unfoldable pub TextShortClaim : Type 0
TextShortClaim = (pairs : List ℕ) → IsFleet pairs → length (fleet_text pairs) ≤ 7 * length pairs
