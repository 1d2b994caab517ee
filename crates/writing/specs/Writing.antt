-- Document 01, "The sheet": the writing of a fleet, "the records of a fleet's nodes and nothing else".
use Rattle.std.specs.Prelude.{Option, Some, None, List, [], ◌∷◌, ◌++◌, ℕ, zero, suc, ◌+◌, ◌*◌, ◌/◌, ◌%◌}
use Rattle.std.proofs.Math.Decide.{ℕ_discrete}

-- The bit of a field: 0 where the field is equal to what its absence would mean.
unfoldable pub bit_of : {Same : Type 0} → Dec Same → ℕ
bit_of (yes _) = 0
bit_of (no _) = 1

unfoldable pub if_bit : ℕ → List ℕ → List ℕ
if_bit zero field = []
if_bit (suc _) field = field

-- "a byte of bits, then the fields whose bit is set": depth, then label, "two bytes, low byte first"
unfoldable pub record_bytes : (depth_bit label_bit depth label : ℕ) → List ℕ
unfolding if_bit
record_bytes db lb depth label = (db + 2 * lb) ∷ if_bit db (depth ∷ []) ++ if_bit lb (label % 256 ∷ label / 256 ∷ [])

-- The record of the pair x after the pair before it.
unfoldable pub record_after : (previous x : ℕ) → List ℕ
unfolding record_bytes bit_of ℕ_discrete
record_after previous x = record_bytes (bit_of (ℕ_discrete (x / 1000) (suc (previous / 1000)))) (bit_of (ℕ_discrete (x % 1000) (previous % 1000))) (x / 1000) (x % 1000)

unfoldable pub records_after : (previous : ℕ) → List ℕ → List ℕ
unfolding record_after
records_after previous [] = []
records_after previous (x ∷ pairs) = record_after previous x ++ records_after x pairs

-- "The first record has both."
unfoldable pub writing : List ℕ → List ℕ
unfolding record_bytes records_after
writing [] = []
writing (x ∷ pairs) = record_bytes 1 1 (x / 1000) (x % 1000) ++ records_after x pairs

-- The record that the next pair adds, by the number of pairs before it and the last of them.
unfoldable pub record_of : (count previous x : ℕ) → List ℕ
record_of zero previous x = record_bytes 1 1 (x / 1000) (x % 1000)
record_of (suc count) previous x = record_after previous x

-- The same by the pair before it, if there is one.
unfoldable pub record_behind : (previous : Option ℕ) (x : ℕ) → List ℕ
record_behind None x = record_bytes 1 1 (x / 1000) (x % 1000)
record_behind (Some previous) x = record_after previous x
