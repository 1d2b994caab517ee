-- Document 01, "The sheet": what a sheet says, and what `read` answers and leaves in the output.
use Rattle.std.specs.Prelude.{List, [], ◌∷◌, ◌++◌, ℕ, zero, suc, ◌<◌, length, get_or}
use Rattle.std.proofs.Math.Decide.{dec_le}
use Rattle.terms.specs.Tree.{pair}
use Rattle.terms.specs.Refusal.{refusal, output_after}
use Rattle.fleet.specs.declared.Answer.{Answer}
use Rattle.fleet.specs.declared.Answer.TheVariants.{Done, Refused}
use Rattle.fleet.specs.Answering.{answer}
use Rattle.fleet.specs.Rules.{output_rule}
use Rattle.record.specs.NextRecord.{Step, node, end, wrong, next_record}

-- A sheet is bytes. The reading needs no such bound, but two lists that are no bytes can say the same.
abbrev pub AllBytes : List ℕ → Type 0
AllBytes sheet = (i : ℕ) → i < length sheet → get_or sheet i 0 < 256

-- What a sheet says: its pairs, or the number of its refusal.
pub data Reading : Type 0 where
  accepted : (pairs : List ℕ) → Reading
  refused : (number : ℕ) → Reading

unfoldable pub go_on : Step → List ℕ → (List ℕ → List ℕ → Reading) → Reading
go_on (node depth label remain) before read = read (before ++ pair depth label ∷ []) remain
go_on end before read = accepted before
go_on (wrong number) before read = refused number

-- "Reading goes record by record, and the first wrong record decides." The first number is that of the turns left, one for each record and
-- one for the end. A record has at least one byte, so one more than the bytes is enough (`turns_enough`), and 0 is not reached.
unfoldable pub read_on : (turns : ℕ) (before bytes : List ℕ) → Reading
unfolding go_on next_record
read_on zero before bytes = refused 0
read_on (suc turns) before bytes = go_on (next_record before bytes) before (read_on turns)

unfoldable pub reading : List ℕ → Reading
unfolding read_on
reading sheet = read_on (suc (length sheet)) [] sheet

-- How many nodes a sheet says.
unfoldable pub count_answer : Reading → Answer
count_answer (accepted pairs) = Done (length pairs)
count_answer (refused number) = Refused number

-- `read`: 1 to 9, "then" 17, "output shorter than the nodes read".
unfoldable pub pairs_said : Reading → List ℕ
pairs_said (accepted pairs) = pairs
pairs_said (refused number) = []

unfoldable pub read_refusal : Reading → (output : List ℕ) → ℕ
unfolding refusal dec_le
read_refusal (accepted pairs) output = refusal (output_rule (length pairs) output ∷ [])
read_refusal (refused number) output = number

unfoldable pub read_answer : (sheet output : List ℕ) → Answer
read_answer sheet output = answer (read_refusal (reading sheet) output) (length (pairs_said (reading sheet)))

unfoldable pub read_output : (sheet output : List ℕ) → List ℕ
read_output sheet output = output_after (read_refusal (reading sheet) output) (pairs_said (reading sheet)) output
