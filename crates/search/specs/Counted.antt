-- Sets of forms with their counts, and one form with its own: what a search goes through, and what it finds.
use Rattle.std.specs.Prelude.{List, ℕ}
use Rattle.terms.specs.Order.{Lighter}

-- A form and its support.
pub record Entry : Type 0 where
  pub form : List ℕ
  pub held : ℕ

-- A set of forms with a count for each.
pub record Counted : Type 1 where
  pub Holds : List ℕ → Type 0
  pub count : List ℕ → ℕ

-- Those of its forms that are heavier than a sequence.
abbrev pub heavier_than : Counted → List ℕ → Counted
heavier_than set s = record { Holds = λ form. set.Holds form × Lighter s form; count = set.count }
