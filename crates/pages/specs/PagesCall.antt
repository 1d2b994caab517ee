-- Document 02, "The key on a page", all pages in one call: what it answers and leaves in the output, whatever it is given.
use Rattle.std.specs.Prelude.{List, [], ◌∷◌, ◌++◌, ℕ, ◌*◌, ◌≤◌, length}
use Rattle.std.proofs.Math.Decide.{dec_le}
use Rattle.terms.specs.Refusal.{Rule, refusal, output_after}
use Rattle.fleet.specs.declared.Answer.{Answer}
use Rattle.fleet.specs.Answering.{answer}
use Rattle.listing.specs.Listing.{Asked}
use Rattle.listing.specs.Calls.{asked_rules}
use Rattle.entries.specs.Entries.{list_of}
use Rattle.paper.specs.Paper.{page_bytes}
use Rattle.layout.specs.Pages.{key_pages, number_of_pages}

-- The pages of what is asked, and how many they are.
abbrev pub pages_of : Asked → List ℕ
pages_of asked = key_pages (list_of asked)

abbrev pub pages_needed : Asked → ℕ
pages_needed asked = number_of_pages (list_of asked)

-- 18: "page output shorter than the pages needed"
abbrev pub pages_rule : (pages : ℕ) (output : List ℕ) → Rule
pages_rule pages output = record { number = 18; Kept = pages * page_bytes ≤ length output; decide = dec_le (pages * page_bytes) (length output) }

-- "18 in place of 17": 10, 11, 12, 19, 18.
unfoldable pub pages_rules : Asked → (output : List ℕ) → List Rule
pages_rules asked output = asked_rules asked ++ pages_rule (pages_needed asked) output ∷ []

-- "The answer is the number of pages."
unfoldable pub pages_answer : Asked → (output : List ℕ) → Answer
pages_answer asked output = answer (refusal (pages_rules asked output)) (pages_needed asked)

unfoldable pub pages_output : Asked → (output : List ℕ) → List ℕ
pages_output asked output = output_after (refusal (pages_rules asked output)) (pages_of asked) output
