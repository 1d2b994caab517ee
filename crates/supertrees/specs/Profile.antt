-- Document 02, "Closed and maximal lists": the profiles of a list, by their numbers.
use Rattle.std.specs.Prelude.{List, ℕ, zero, suc}
use Rattle.supertrees.specs.Supertree.{Closed, Maximal}

abbrev pub full : ℕ
full = 0

abbrev pub closed : ℕ
closed = 1

abbrev pub maximal : ℕ
maximal = 2

-- Which of the forms that reach the threshold a profile lists: "0 full, 1 closed, 2 maximal". No call lists by a number above 2 (19); it is taken
-- for 2 here.
unfoldable pub Selects : (profile : ℕ) (count : List ℕ → ℕ) (threshold : ℕ) (form : List ℕ) → Type 0
Selects zero count threshold form = Unit {0}
Selects (suc zero) count threshold form = Closed count form
Selects (suc (suc n)) count threshold form = Maximal count threshold form
