-- What is put into a list behind what stands there.
use Rattle.std.specs.Prelude.{◌≡◌, List, ◌++◌, ℕ, ◌+◌, length, take}

-- The first numbers of a list, up to `len`, stay; behind them stand others, up to `end`.
pub record PutBehind (list : List ℕ) (len : ℕ) (others list' : List ℕ) (end : ℕ) : Type 0 where
  pub same_length : length list' ≡ length list
  pub as_many : end ≡ len + length others
  pub put : take end list' ≡ take len list ++ others
