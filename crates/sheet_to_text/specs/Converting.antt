-- What the program makes of a sheet: the text of its fleet, or the number of its refusal.
use Rattle.std.specs.Prelude.{List, ◌++◌, ℕ, ◌≤◌, length, drop}
use Rattle.sheet.specs.Reading.{Reading, accepted, refused}
use Rattle.fleet.specs.declared.Answer.{Answer}
use Rattle.fleet.specs.declared.Answer.TheVariants.{Done, Refused}
use Rattle.fleet_text.specs.FleetText.{fleet_text}

unfoldable pub text_answer : Reading → Answer
text_answer (accepted pairs) = Done (length (fleet_text pairs))
text_answer (refused number) = Refused number

-- The text stands at the front, and what is past it is as it was; where the sheet is refused, all is.
unfoldable pub text_after : Reading → (text : List ℕ) → List ℕ
text_after (accepted pairs) text = fleet_text pairs ++ drop (length (fleet_text pairs)) text
text_after (refused number) text = text

-- There is room for the text of any fleet.
unfoldable pub TextWithin : Answer → (most : ℕ) → Type 0
TextWithin (Done size) most = size ≤ most
TextWithin (Refused number) most = Unit
