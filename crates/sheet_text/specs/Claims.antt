-- The claims about texts of fleets and what they say. Each is proved under its name in lower case, in proofs/Claims.
use Rattle.std.specs.Prelude.{◌≡◌, List, ◌++◌, ℕ, ◌+◌, ◌≤◌, length, take, drop}
use Rattle.terms.specs.Fleet.{IsFleet}
use Rattle.fleet.specs.declared.Answer.TheVariants.{Done}
use Rattle.fleet_text.specs.FleetText.{fleet_text, print_answer, print_output}
use Rattle.sheet_text.specs.TextReading.{whole, most_text_bytes, text_reading, parse_answer, parse_output}
use Rattle.sheet_text.specs.declared.Parsed.TheVariants.{Pairs}

-- What is read whole is an accepted fleet, so `write` gives its sheet.
unfoldable pub TextIsFleetClaim : Type 0
TextIsFleetClaim = (text pairs : List ℕ) → text_reading text ≡ whole pairs → IsFleet pairs

-- Of a longer text one byte more than a text has at most says what the whole does: that it is too long.
unfoldable pub TextKeptClaim : Type 0
TextKeptClaim = (text : List ℕ) → text_reading (take (most_text_bytes + 1) text) ≡ text_reading text

-- The text of a fleet reads back as the fleet.
unfoldable pub FleetTextReadsBackClaim : Type 0
FleetTextReadsBackClaim = (pairs : List ℕ) → IsFleet pairs → text_reading (fleet_text pairs) ≡ whole pairs

-- Over the calls: the bytes that `print` put in its output are read by `parse` as the pairs.
unfoldable pub PrintedReadsBackClaim : Type 0
PrintedReadsBackClaim = (pairs output : List ℕ) (n : ℕ) → print_answer pairs output ≡ Done n → (memory : List ℕ) → length pairs ≤ length memory
    → (parse_answer (take n (print_output pairs output)) memory ≡ Pairs (length pairs)) × (parse_output (take n (print_output pairs output)) memory ≡ pairs ++ drop (length pairs) memory)
