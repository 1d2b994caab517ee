-- What the functions that fill the outputs of a batch are given, and what they leave there: the forms' pairs, and a number of each form.
use Rattle.std.specs.Prelude.{◌≡◌, List, [], ◌∷◌, ◌++◌, ℕ, ◌+◌, ◌*◌, length, drop}
use Rattle.terms.specs.Refusal.{Rule, refusal}
use Rattle.search.specs.Counted.{Entry}
use Rattle.listing.specs.Listing.{Asked}
use Rattle.listing.specs.Calls.{asked_rules, pattern_rules}
use Rattle.filling.specs.Row.{row_entries}

-- A form of so many nodes and so large a count in one number: a form has at most 16 nodes.
abbrev pub number_for : (nodes held : ℕ) → ℕ
number_for nodes held = 100 * held + nodes

-- The pairs of the forms, end to end, and their numbers.
unfoldable pub pairs_given : List Entry → List ℕ
pairs_given [] = []
pairs_given (entry ∷ entries) = entry.form ++ pairs_given entries

unfoldable pub numbers_given : List Entry → List ℕ
numbers_given [] = []
numbers_given (entry ∷ entries) = number_for (length entry.form) entry.held ∷ numbers_given entries

-- A pattern of no pairs breaks no rule; any other is a step's: 13, 14, 15.
unfoldable pub after_rules : (pattern : List ℕ) (bound : ℕ) → List Rule
after_rules [] bound = []
after_rules (x ∷ pattern) bound = pattern_rules (x ∷ pattern) bound

-- Neither what is asked nor the pattern is refused.
pub record FillInput (asked : Asked) (pattern : List ℕ) : Type 0 where
  pub accepted : refusal (asked_rules asked) ≡ 0
  pub may_follow : refusal (after_rules pattern asked.request.bound) ≡ 0

-- The forms that calls in a row give stand in front of the outputs; nothing past them is written.
pub record Filled (asked : Asked) (pattern output found : List ℕ) (given : ℕ) (output' found' : List ℕ) : Type 0 where
  pub as_many : given ≡ length (row_entries asked pattern output (length output) (length found))
  pub pairs : let result = pairs_given (row_entries asked pattern output (length output) (length found)) in output' ≡ result ++ drop (length result) output
  pub numbers : let result = numbers_given (row_entries asked pattern output (length output) (length found)) in found' ≡ result ++ drop (length result) found
