-- What a read tells, and what is known of an input that was read.
use Rattle.std.specs.Prelude.{ℕ, zero, suc, ◌<◌, ◌≤◌, List, length, take, Option, Some, None, Result, Ok, Err}
use Rattle.std.specs.Io.KnownBytes.{Consumes, IsAtEnd}
use Rattle.std.specs.declared.io.Error.{Error}

-- A `read` answers an error where it fails, else how many bytes it put down, 0 at the end of the input.
unfoldable pub told_by : Result ℕ Error → Result (Option ℕ) Error
told_by (Err e) = Err e
told_by (Ok zero) = Ok None
told_by (Ok (suc more)) = Ok (Some (suc more))

-- No more bytes are counted than the buffer has.
unfoldable pub Within : Result ℕ Error → (most : ℕ) → Type 0
Within (Ok size) most = size ≤ most
Within (Err _) most = Unit

-- Where the bytes that a reader had before are known: those that are counted were taken from their front, and all of them where the buffer has
-- room for more. Where a read failed, some were taken.
unfoldable pub TakenFrom : (before after : Option (List ℕ)) → (buffer : List ℕ) → Result ℕ Error → Type 0
TakenFrom before after buffer (Ok size) = Consumes before after (take size buffer) × (size < length buffer → IsAtEnd after)
TakenFrom before after buffer (Err _) = (taken : List ℕ) × Consumes before after taken
