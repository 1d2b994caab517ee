-- Document 01, "The list", the key program: what an input has, a header and then the sheet. Each program that lists has its own header.
use Rattle.std.specs.Prelude.{List, ℕ, get_or, take, drop}

-- "A missing byte counts as 0."
abbrev pub byte : (input : List ℕ) (i : ℕ) → ℕ
byte input i = get_or input i 0

-- "It keeps the sheet's first 16,388 bytes, enough to decide any sheet."
abbrev pub most_sheet_bytes : ℕ
most_sheet_bytes = 16388

-- The sheet behind a header of so many bytes.
abbrev pub sheet_behind : (header : ℕ) (input : List ℕ) → List ℕ
sheet_behind header input = take most_sheet_bytes (drop header input)
