-- The claims about the list program, from its input to its output. Each is proved under its name in lower case, in proofs/Claims.
use Rattle.std.specs.Prelude.{◌≡◌, List, ◌∷◌, ◌++◌, ℕ, suc, take, drop}
use Rattle.sheet.specs.Reading.{reading}
use Rattle.lines.specs.Lines.{refusal_line, end_line}
use Rattle.search.specs.Counted.{Entry}
use Rattle.listing.specs.Listing.{IsListing}
use Rattle.run.specs.Running.{lines}
use Rattle.supertrees.specs.Profile.{full}
use Rattle.opening.specs.Asking.{asked_for, refusal_for}
use Rattle.key.specs.Output.{key_output}
use Rattle.list_main.specs.Header.{header_bytes, list_request, list_sheet, most_list_input_bytes, list_output}

-- A full list is the key program's, wherever that can be asked for it: the threshold is one byte there.
unfoldable pub SameAsKeyClaim : Type 0
SameAsKeyClaim = (threshold bound : ℕ) (sheet : List ℕ) → list_output (threshold ∷ 0 ∷ bound ∷ full ∷ sheet) ≡ key_output (threshold ∷ bound ∷ sheet)

-- On a refusal, of the sheet or else of the request, it writes the line of the refusal and nothing else.
unfoldable pub ListRefusedClaim : Type 0
ListRefusedClaim = (input : List ℕ) (number : ℕ) → refusal_for (list_request input) (list_sheet input) ≡ suc number → list_output input ≡ refusal_line (suc number)

-- Else the lines of the list at the profile that is asked for, whichever entries are proved to be it, and the end.
unfoldable pub ListListedClaim : Type 0
ListListedClaim = (input : List ℕ) (entries : List Entry) → refusal_for (list_request input) (list_sheet input) ≡ 0
    → IsListing (asked_for (list_request input) (list_sheet input)) entries → list_output input ≡ lines entries ++ end_line

-- What is kept of a sheet says what the whole sheet says.
unfoldable pub ListSheetKeptClaim : Type 0
ListSheetKeptClaim = (input : List ℕ) → reading (list_sheet input) ≡ reading (drop header_bytes input)

-- What is not read makes no difference.
unfoldable pub ListInputKeptClaim : Type 0
ListInputKeptClaim = (input : List ℕ) → list_output (take most_list_input_bytes input) ≡ list_output input
