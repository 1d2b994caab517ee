-- What a request asks of the fleet of a sheet, and in which order it is refused (document 01, "The list", the key program).
use Rattle.std.specs.Prelude.{◌≡◌, List, ℕ, zero, suc, length}
use Rattle.terms.specs.Refusal.{refusal, output_after}
use Rattle.terms.specs.Remarks.{without_remarks}
use Rattle.remarks.specs.TakenOut.{moved_to_front}
use Rattle.fleet.specs.declared.Answer.{Answer}
use Rattle.fleet.specs.Answering.{answer}
use Rattle.sheet.specs.Reading.{Reading, accepted, refused, reading, pairs_said}
use Rattle.index.specs.Index.{Indexed}
use Rattle.search.specs.declared.Request.{Request}
use Rattle.listing.specs.Listing.{Asked, asks}
use Rattle.listing.specs.Calls.{request_rules}

-- The request, asked of the fleet of an accepted sheet.
unfoldable pub asked_for : Request → (sheet : List ℕ) → Asked
asked_for request sheet = asks (pairs_said (reading sheet)) request

-- "Numbers are checked upwards": those of the sheet, 1 to 9, then those of the request; 0 if there is none.
unfoldable pub refusal_after : Reading → (later : ℕ) → ℕ
refusal_after (accepted pairs) later = later
refusal_after (refused number) later = number

unfoldable pub refusal_for : Request → (sheet : List ℕ) → ℕ
refusal_for request sheet = refusal_after (reading sheet) (refusal (request_rules request))

-- The fleet that is searched: that of the sheet with remarks taken out.
abbrev pub counted_for : Request → (sheet : List ℕ) → List ℕ
counted_for request sheet = without_remarks (asked_for request sheet).fleet

-- How many pairs it has, or the number of the refusal.
abbrev pub answer_for : Request → (sheet : List ℕ) → Answer
answer_for request sheet = answer (refusal_for request sheet) (length (counted_for request sheet))

-- The memory that the sheet is read into, afterwards: its pairs so moved in front, or, at any refusal, "left as it was: every output".
abbrev pub memory_for : Request → (sheet memory : List ℕ) → List ℕ
memory_for request sheet memory = output_after (refusal_for request sheet) (moved_to_front (asked_for request sheet).fleet) memory

-- The same for what a sheet says and the refusal of the request, with the answer: how many nodes count, or the number of the refusal.
abbrev pub fleet_output : Reading → (later : ℕ) (memory : List ℕ) → List ℕ
fleet_output sheet later memory = output_after (refusal_after sheet later) (moved_to_front (pairs_said sheet)) memory

abbrev pub fleet_answer : Reading → (later : ℕ) → Answer
fleet_answer sheet later = answer (refusal_after sheet later) (length (without_remarks (pairs_said sheet)))

-- The tables of the fleet (parents, numbers, sizes), afterwards: made, or, at any refusal, as they were.
unfoldable pub IndexAfter : (refusal : ℕ) (fleet : List ℕ) (before after : List ℕ × List ℕ × List ℕ) → Type 0
IndexAfter zero fleet before after = Indexed fleet after.0 after.1 after.2
IndexAfter (suc number) fleet before after = after ≡ before
