-- What the functions that move and replace pairs within a buffer are given, and what they leave there.
use Rattle.std.specs.Prelude.{List, ◌++◌, ℕ, ◌+◌, ◌-◌, ◌≤◌, length, take, drop}

-- There is room for the pairs at either place.
pub record MoveInput (buffer : List ℕ) (from to count : ℕ) : Type 0 where
  pub here : from + count ≤ length buffer
  pub there : to + count ≤ length buffer

-- `count` pairs, from one position on, stand from another on; all else is as it was.
abbrev pub moved : (buffer : List ℕ) (from to count : ℕ) → List ℕ
moved buffer from to count = take to buffer ++ take count (drop from buffer) ++ drop (to + count) buffer

-- Some of the used pairs are to be replaced, and there is room for the others with what stands behind them.
pub record ReplaceInput (buffer : List ℕ) (used from to : ℕ) (pairs : List ℕ) : Type 0 where
  pub forward : from ≤ to
  pub within : to ≤ used
  pub here : used ≤ length buffer
  pub there : from + length pairs + (used - to) ≤ length buffer

-- The pairs from one position to before another are replaced by others; the used ones behind them follow, and all behind these is as it was.
abbrev pub spliced : (buffer : List ℕ) (used from to : ℕ) (pairs : List ℕ) → List ℕ
spliced buffer used from to pairs = take from buffer ++ pairs ++ take (used - to) (drop to buffer) ++ drop (from + length pairs + (used - to)) buffer
