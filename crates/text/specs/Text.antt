-- Document 01, "The list", the key program: the bytes (ASCII) of numbers and pairs.
use Rattle.std.specs.Prelude.{List, [], ◌∷◌, ◌++◌, ℕ, zero, suc, ◌+◌, ◌/◌, ◌%◌}

abbrev pub line_end : ℕ
line_end = 10

abbrev pub blank : ℕ
blank = 32

abbrev pub full_stop : ℕ
full_stop = 46

-- The word of the line `end`.
abbrev pub end_word : List ℕ
end_word = 101 ∷ 110 ∷ 100 ∷ []

-- The digit of a number below 10.
abbrev pub digit : ℕ → ℕ
digit n = 48 + n

-- "Figures are decimal": the digits of a number, none in front that is 0. The first number is that of the digits that may still come; one more
-- than the number itself is enough.
unfoldable pub unless_zero : ℕ → List ℕ → List ℕ
unless_zero zero digits = []
unless_zero (suc _) digits = digits

unfoldable pub digits : (most n : ℕ) → List ℕ
digits zero n = []
digits (suc most) n = unless_zero (n / 10) (digits most (n / 10)) ++ digit (n % 10) ∷ []

unfoldable pub decimal : ℕ → List ℕ
decimal n = digits (suc n) n

-- A pair is "printed as depth, full stop, three label digits".
unfoldable pub pair_text : ℕ → List ℕ
pair_text x = decimal (x / 1000) ++ full_stop ∷ digit (x % 1000 / 100) ∷ digit (x % 1000 / 10 % 10) ∷ digit (x % 1000 % 10) ∷ []
