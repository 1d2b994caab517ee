-- Stretches of pairs exchanged, by positions.
use Rattle.std.specs.Prelude.{◌≡◌, List, ℕ, ◌+◌, ◌≤◌, ◌<◌, length, get_or}

-- t is s with the pairs from a to b in reverse.
pub record Reversed (s t : List ℕ) (a b : ℕ) : Type 0 where
  pub same_length : length t ≡ length s
  pub before : (k : ℕ) → k < a → get_or t k 0 ≡ get_or s k 0
  pub mirrored : (k m : ℕ) → a ≤ k → k < b → k + m + 1 ≡ a + b → get_or t k 0 ≡ get_or s m 0
  pub behind : (k : ℕ) → b ≤ k → get_or t k 0 ≡ get_or s k 0

-- t is s with the pairs from a to b and those from b to c exchanged.
pub record Exchanged (s t : List ℕ) (a b c : ℕ) : Type 0 where
  pub same_length : length t ≡ length s
  pub before : (k : ℕ) → k < a → get_or t k 0 ≡ get_or s k 0
  pub to_back : (k m : ℕ) → a ≤ k → k < b → m + b ≡ k + c → get_or t m 0 ≡ get_or s k 0
  pub to_front : (k m : ℕ) → b ≤ k → k < c → m + b ≡ k + a → get_or t m 0 ≡ get_or s k 0
  pub behind : (k : ℕ) → c ≤ k → get_or t k 0 ≡ get_or s k 0
