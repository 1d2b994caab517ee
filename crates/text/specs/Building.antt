-- What the functions that build a line do to the bytes that are lent to them.
use Rattle.std.specs.Prelude.{◌≡◌, List, ◌++◌, ℕ, ◌+◌, ◌≤◌, length, take, drop}

-- The most digits of a number: one of 64 bits has no more.
abbrev pub most_digits : ℕ
most_digits = 20

-- The most bytes of a pair of 16 bits: a depth of two digits, the full stop, three label digits.
abbrev pub most_pair_bytes : ℕ
most_pair_bytes = 6

-- Bytes put in a lent line at a position: they stand there, `end` is the position behind them, and all else is as it was.
pub record Put (line : List ℕ) (at : ℕ) (bytes line' : List ℕ) (end : ℕ) : Type 0 where
  pub is : line' ≡ take at line ++ bytes ++ drop end line
  pub size : end ≡ at + length bytes
  pub within : end ≤ length line
