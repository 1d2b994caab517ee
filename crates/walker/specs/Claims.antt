-- The claims about the walker's calls in a row; document 01, "The sheet". `WalkOfAccepted` is proved as `walk_of_accepted`, and so on: WalkerLaws
-- of proofs/.
use Rattle.std.specs.Prelude.{◌≡◌, List, [], ℕ}
use Rattle.sheet.specs.Reading.{accepted, refused, reading, AllBytes}
use Rattle.sheet.specs.Refused.{WrongBehind}
use Rattle.sheet.specs.declared.RecordAnswer.TheVariants.{End, Refused}
use Rattle.walker.specs.Walker.{HandsOut}

-- "hands out one record a call (its depth and label, absent fields filled in) ..; after the last it says end": over an accepted sheet exactly the
-- pairs that `read` gives, and then end.
abbrev pub WalkOfAccepted : Type 0
WalkOfAccepted = (sheet pairs : List ℕ) → reading sheet ≡ accepted pairs → HandsOut sheet pairs End

-- "at a wrong record it gives the number and does not move": over a refused sheet exactly the pairs behind which the sheet goes wrong, a fleet or
-- none whose writing is the beginning of the sheet, and then the number that `read` gives. There are no other such pairs: `wrong_behind_unique`.
abbrev pub WalkOfRefused : Type 0
WalkOfRefused = (sheet : List ℕ) (number : ℕ) → AllBytes sheet → reading sheet ≡ refused number → (pairs : List ℕ) × WrongBehind sheet pairs number × HandsOut sheet pairs (Refused number)

-- "on a sheet of no bytes it gives 1"
abbrev pub WalkOfNoBytes : Type 0
WalkOfNoBytes = HandsOut [] [] (Refused 1)
