-- Single calls in a row: what a batch stands for (not in document 01).
use Rattle.std.specs.Prelude.{List, [], ◌∷◌, ℕ, zero, suc, ◌-◌, take}
use Rattle.std.proofs.Math.Decide.{dec_le}
use Rattle.search.specs.Counted.{Entry}
use Rattle.listing.specs.declared.Reply.{Reply}
use Rattle.listing.specs.declared.Reply.TheVariants.{Form, End, Refused}
use Rattle.listing.specs.Listing.{Asked}
use Rattle.listing.specs.Calls.{Call, start, step, answerTo}
use Rattle.listing.specs.Session.{Exchange, answers, before_end}

-- The call that goes on after a pattern: a start after no pairs, else a step.
unfoldable pub call_after : Asked → (pattern output : List ℕ) → Call
call_after asked [] output = start asked output
call_after asked (x ∷ pattern) output = step asked (x ∷ pattern) output

-- It, with what it returns and leaves in the output.
abbrev pub exchange_after : Asked → (pattern output : List ℕ) → Exchange
exchange_after asked pattern output = record { call = call_after asked pattern output; outcome = answerTo (call_after asked pattern output) }

unfoldable pub if_so : {P : Type 0} → Dec P → List Exchange → List Exchange
if_so (yes _) exchanges = exchanges
if_so (no _) exchanges = []

-- What follows a call that gave a form of so many pairs; after end, or a refusal, nothing does.
unfoldable pub after_form : Reply → ((nodes : ℕ) → List Exchange) → List Exchange
after_form (Form nodes held) rest = rest nodes
after_form End rest = []
after_form (Refused number) rest = []

-- CALLS IN A ROW, the first after the pattern, each next one after the form before it, all with the same output. There is one more only while
-- the forms still have room for as many pairs as the size bound says, and `places` has one left; and none after end.
unfoldable pub in_a_row : (asked : Asked) (pattern output : List ℕ) (room places : ℕ) → List Exchange
in_a_row asked pattern output room zero = []
in_a_row asked pattern output room (suc places) = if_so (dec_le asked.request.bound room)
    (exchange_after asked pattern output ∷ after_form (exchange_after asked pattern output).outcome.reply
    (λ nodes. in_a_row asked (take nodes (exchange_after asked pattern output).outcome.output) output (room - nodes) places))

-- The forms that they give, with their counts.
abbrev pub row_entries : (asked : Asked) (pattern output : List ℕ) (room places : ℕ) → List Entry
row_entries asked pattern output room places = before_end (answers (in_a_row asked pattern output room places))
