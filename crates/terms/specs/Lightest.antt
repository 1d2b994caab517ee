-- Document 01, "The list": the lightest sequence of a set, or none ("or end").
use Rattle.std.specs.Prelude.{List, ℕ}
use Rattle.std.proofs.Math.Option.{Option, none, some}
use Rattle.terms.specs.Order.{Lighter}

-- What is found where the lightest of those that are `Among` is asked for: it is among them and none of them is lighter;
-- or nothing, where there is none. That there is exactly one such answer is `lightest_exists` and `lightest_unique`.
pub data Lightest (Among : List ℕ → Type 0) : Option (List ℕ) → Type 0 where
  the_lightest : {s : List ℕ} → Among s → ((other : List ℕ) → Among other → ¬ Lighter other s) → Lightest Among (some s)
  none_at_all : ((s : List ℕ) → ¬ Among s) → Lightest Among none
