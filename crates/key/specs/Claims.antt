-- The claims about the key program, from its input to its output; those about its run are of crate opening. Each is proved under its name in lower
-- case, in proofs/Claims.
use Rattle.std.specs.Prelude.{◌≡◌, List, ◌++◌, ℕ, suc, take, drop}
use Rattle.sheet.specs.Reading.{reading}
use Rattle.lines.specs.Lines.{refusal_line, end_line}
use Rattle.search.specs.Counted.{Entry}
use Rattle.listing.specs.Listing.{IsListing}
use Rattle.run.specs.Running.{lines}
use Rattle.key.specs.Input.{sheet_of, most_input_bytes, asked_by, input_refusal}
use Rattle.key.specs.Output.{key_output}

-- "On a refusal it writes only the word refused, a blank, the number and a line end."
unfoldable pub RefusedOutputClaim : Type 0
RefusedOutputClaim = (input : List ℕ) (number : ℕ) → input_refusal input ≡ suc number → key_output input ≡ refusal_line (suc number)

-- Else the lines of the list, whichever entries are proved to be it, and the end.
unfoldable pub ListedClaim : Type 0
ListedClaim = (input : List ℕ) (entries : List Entry) → input_refusal input ≡ 0 → IsListing (asked_by input) entries → key_output input ≡ lines entries ++ end_line

-- "It keeps the sheet's first 16,388 bytes, enough to decide any sheet": they say what the whole sheet says.
unfoldable pub SheetKeptClaim : Type 0
SheetKeptClaim = (input : List ℕ) → reading (sheet_of input) ≡ reading (drop 2 input)

-- What is not read makes no difference.
unfoldable pub InputKeptClaim : Type 0
InputKeptClaim = (input : List ℕ) → key_output (take most_input_bytes input) ≡ key_output input
