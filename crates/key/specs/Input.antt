-- Document 01, "The list", the key program: what it takes from its input.
use Rattle.std.specs.Prelude.{List, ℕ, ◌+◌}
use Rattle.supertrees.specs.Profile.{full}
use Rattle.search.specs.declared.Request.{Request}
use Rattle.listing.specs.Listing.{Asked}
use Rattle.header.specs.Header.{byte, most_sheet_bytes, sheet_behind}
use Rattle.opening.specs.Asking.{asked_for, refusal_for}

-- "one byte threshold, one byte size bound, then the sheet. A missing byte counts as 0." The list is full.
abbrev pub request_by : List ℕ → Request
request_by input = record { threshold = byte input 0; bound = byte input 1; profile = full }

abbrev pub sheet_of : List ℕ → List ℕ
sheet_of input = sheet_behind 2 input

-- The bytes that are read.
abbrev pub most_input_bytes : ℕ
most_input_bytes = 2 + most_sheet_bytes

-- The request, asked of the fleet of an accepted sheet; the number of the refusal, 0 if there is none.
abbrev pub asked_by : List ℕ → Asked
asked_by input = asked_for (request_by input) (sheet_of input)

abbrev pub input_refusal : List ℕ → ℕ
input_refusal input = refusal_for (request_by input) (sheet_of input)
