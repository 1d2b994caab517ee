-- The claims about inputs. Each is proved under its name in lower case, in proofs/Claims.
use Rattle.std.specs.Prelude.{◌≡◌, List, ℕ, ◌+◌, ◌<◌, take}
use Rattle.header.specs.Header.{byte, most_sheet_bytes, sheet_behind}

-- What is not read makes no difference: the header and the sheet are those of the bytes that are read.
unfoldable pub AllReadClaim : Type 0
AllReadClaim = (header : ℕ) (input : List ℕ) → let read = take (header + most_sheet_bytes) input in
    ((i : ℕ) → i < header → byte read i ≡ byte input i) × (sheet_behind header read ≡ sheet_behind header input)
