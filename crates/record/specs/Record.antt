-- Document 01, "The sheet": a record, what it says, and what the rules 2, 3, 4 and 8 of "When the desk says no" ask of it. The rules of the node
-- that it says, 5, 6, 7 and 9, are the fleet's.
use Rattle.std.specs.Prelude.{◌≡◌, ◌≢◌, List, ℕ, zero, suc, ◌+◌, ◌*◌, ◌/◌, ◌%◌, ◌≤◌, ◌<◌, length, get_or}
use Rattle.fleet.specs.Node.{last_depth, last_label}

-- In all of this, `before` is the pairs of the nodes read so far; the record at hand is a byte of bits and the bytes after it.

-- "bit 0 (value 1) depth, one byte; bit 1 (value 2) label, two bytes"
abbrev pub depth_bit : ℕ → ℕ
depth_bit bits = bits % 2

abbrev pub label_bit : ℕ → ℕ
label_bit bits = bits / 2 % 2

abbrev pub field_bytes : ℕ → ℕ
field_bytes bits = depth_bit bits + 2 * label_bit bits

-- A field whose bit is set stands there; "absent fields filled in".
unfoldable pub field_or : (bit field absent : ℕ) → ℕ
field_or zero field absent = absent
field_or (suc _) field absent = field

-- "An absent depth is the previous node's plus 1; an absent label is the previous node's." "two bytes, low byte first"
abbrev pub said_depth : (before : List ℕ) (bits : ℕ) (bytes : List ℕ) → ℕ
said_depth before bits bytes = field_or (depth_bit bits) (get_or bytes 0 0) (suc (last_depth before))

abbrev pub said_label : (before : List ℕ) (bits : ℕ) (bytes : List ℕ) → ℕ
said_label before bits bytes = field_or (label_bit bits) (get_or bytes (depth_bit bits) 0 + 256 * get_or bytes (suc (depth_bit bits)) 0) (last_label before)

-- 2: "bit above bit 1 set"
abbrev pub NoHighBit : ℕ → Type 0
NoHighBit bits = bits < 4

-- 3: "first record lacks a field"
abbrev pub FirstHasBoth : List ℕ → ℕ → Type 0
FirstHasBoth before bits = length before ≡ 0 → (depth_bit bits ≡ 1) × (label_bit bits ≡ 1)

-- 4: "sheet ends before a record's fields do"
abbrev pub FieldsFit : ℕ → List ℕ → Type 0
FieldsFit bits bytes = field_bytes bits ≤ length bytes

-- 8: "field that should be absent". "A field equal to what its absence would mean must be absent"; at the first record absence means nothing.
abbrev pub NoNeedlessField : List ℕ → ℕ → ℕ → ℕ → Type 0
NoNeedlessField before bits depth label = 1 ≤ length before → (depth_bit bits ≡ 1 → depth ≢ suc (last_depth before)) × (label_bit bits ≡ 1 → label ≢ last_label before)
