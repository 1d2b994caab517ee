-- Many forms of the list in one call: what so many steps in a row give (not in document 01).
use Rattle.std.specs.Prelude.{List, [], ◌∷◌, ◌++◌, ℕ, length}
use Rattle.terms.specs.Refusal.{Rule, refusal, output_after}
use Rattle.fleet.specs.declared.Answer.{Answer}
use Rattle.fleet.specs.Answering.{answer}
use Rattle.fleet.specs.Rules.{output_rule}
use Rattle.search.specs.Counted.{Entry}
use Rattle.listing.specs.Listing.{Asked, bare}
use Rattle.listing.specs.Calls.{asked_rules}
use Rattle.filling.specs.Row.{row_entries}
use Rattle.filling.specs.Filling.{pairs_given, numbers_given, after_rules}

-- What is asked, the pattern after which the batch goes on (no pairs: from the start), and the two outputs: for the forms' pairs, and for a
-- number of each form.
pub record Batch : Type 0 where
  pub asked : Asked
  pub pattern : List ℕ
  pub output : List ℕ
  pub found : List ℕ

abbrev pub batch_of : (asked : Asked) (pattern output found : List ℕ) → Batch
batch_of asked pattern output found = record { asked = asked; pattern = pattern; output = output; found = found }

-- The same batch without a register.
abbrev pub bare_batch : Batch → Batch
bare_batch b = batch_of (bare b.asked) b.pattern b.output b.found

-- The forms given, with their counts.
abbrev pub entries_of : Batch → List Entry
entries_of b = row_entries b.asked b.pattern b.output (length b.output) (length b.found)

-- The rules of the call: 10 (fleet, register), 11, 12, 19; 13, 14, 15; 17, which is about the size bound in the one output and one number in the other,
-- so that one form surely fits.
unfoldable pub batch_rules : Batch → List Rule
batch_rules b = asked_rules b.asked ++ (after_rules b.pattern b.asked.request.bound
    ++ output_rule b.asked.request.bound b.output ∷ output_rule 1 b.found ∷ [])

-- The answer is how many forms are given.
unfoldable pub batch_answer : Batch → Answer
batch_answer b = answer (refusal (batch_rules b)) (length (entries_of b))

unfoldable pub batch_output : Batch → List ℕ
batch_output b = output_after (refusal (batch_rules b)) (pairs_given (entries_of b)) b.output

unfoldable pub batch_found : Batch → List ℕ
batch_found b = output_after (refusal (batch_rules b)) (numbers_given (entries_of b)) b.found
