-- Sessions in which some calls are batches. A batch is looked at as the single calls that it stands for, so that document 01's sessions, and
-- all that is claimed of them, take it in.
use Rattle.std.specs.Prelude.{◌≡◌, List, [], ◌∷◌, ◌++◌, ℕ, zero, suc, ◌-◌, ◌/◌, ◌%◌, ◌≤◌, ◌<◌, length, take, drop}
use Rattle.std.proofs.Math.Option.{Option, none, some}
use Rattle.std.proofs.Math.Decide.{dec_le, dec_lt}
use Rattle.fleet.specs.declared.Answer.{Answer}
use Rattle.fleet.specs.declared.Answer.TheVariants.{Done, Refused}
use Rattle.search.specs.Counted.{Entry}
use Rattle.listing.specs.Listing.{Asked}
use Rattle.listing.specs.Calls.{answerTo}
use Rattle.terms.proofs.Decide.{both?}
use Rattle.listing.specs.Session as L
use Rattle.listing.specs.Session.{Exchange, Session, answers, before_end, given, ended}
use Rattle.filling.specs.Row.{in_a_row}
use Rattle.filling.specs.Filling.{pairs_given}
use Rattle.batch.specs.Batch.{Batch, batch_answer, batch_output, batch_found}

-- A batch, with what it returned and left in its two outputs.
pub record BatchExchange : Type 0 where
  pub batch : Batch
  pub answer : Answer
  pub output : List ℕ
  pub found : List ℕ

-- What the caller reads off: so many forms, each with as many pairs as its number says, and with that count.
unfoldable pub read_off : (forms : ℕ) (output found : List ℕ) → List Entry
read_off zero output found = []
read_off (suc forms) output [] = []
read_off (suc forms) output (number ∷ found) = record { form = take (number % 100) output; held = number / 100 } ∷ read_off forms (drop (number % 100) output) found

-- The calls of a session: single ones, and batches.
pub data Turn : Type 0 where
  single : Exchange → Turn
  many : BatchExchange → Turn

-- Each did what its contract says.
pub data AllAsPromised : List Turn → Type 0 where
  no_more : AllAsPromised []
  also_single : {x : Exchange} {turns : List Turn} → x.outcome ≡ answerTo x.call → AllAsPromised turns → AllAsPromised (single x ∷ turns)
  also_many : {x : BatchExchange} {turns : List Turn} → x.answer ≡ batch_answer x.batch → x.output ≡ batch_output x.batch → x.found ≡ batch_found x.batch
      → AllAsPromised turns → AllAsPromised (many x ∷ turns)

-- One more form surely has room behind these.
abbrev pub OneMoreFits : Batch → List Entry → Type 0
OneMoreFits b entries = (length entries < length b.found) × (b.asked.request.bound ≤ length b.output - length (pairs_given entries))

-- WHAT THE CALLER IS TOLD, call by call, as document 01's answers: by a batch the forms that are read off, and end if one more would have fitted;
-- by a refused call nothing.
unfoldable pub each_given : List Entry → List L.Answer
each_given [] = []
each_given (entry ∷ entries) = given entry ∷ each_given entries

unfoldable pub end_if : {P : Type 0} → Dec P → List L.Answer
end_if (yes _) = ended ∷ []
end_if (no _) = []

unfoldable pub forms_told : Batch → List Entry → List L.Answer
forms_told b entries = each_given entries ++ end_if (both? (dec_lt (length entries) (length b.found)) (dec_le b.asked.request.bound (length b.output - length (pairs_given entries))))

unfoldable pub told_by_batch : Answer → BatchExchange → List L.Answer
told_by_batch (Done forms) x = forms_told x.batch (read_off forms x.output x.found)
told_by_batch (Refused number) x = []

unfoldable pub told : List Turn → List L.Answer
told [] = []
told (single x ∷ turns) = answers (x ∷ []) ++ told turns
told (many x ∷ turns) = told_by_batch x.answer x ++ told turns

-- The single calls that a batch stands for; one that is refused stands for none.
unfoldable pub calls_of : Answer → Batch → List Exchange
calls_of (Done forms) b = in_a_row b.asked b.pattern b.output (length b.output) (length b.found)
calls_of (Refused number) b = []

unfoldable pub singles : List Turn → List Exchange
singles [] = []
singles (single x ∷ turns) = x ∷ singles turns
singles (many x ∷ turns) = calls_of x.answer x.batch ++ singles turns

-- The last form given, if any, after further ones were given.
unfoldable pub last_form : Option (List ℕ) → List Entry → Option (List ℕ)
last_form last [] = last
last_form last (entry ∷ entries) = last_form (some entry.form) entries

-- The pattern of a batch that goes on after it: no pairs where none was given yet.
unfoldable pub pattern_after : Option (List ℕ) → List ℕ
pattern_after none = []
pattern_after (some form) = form

-- A session of both kinds of calls. An answered batch goes on after the last form given, and asks what all answered calls ask.
pub data MixedSession (asked : Asked) : Option (List ℕ) → List Turn → Type 0 where
  over : {last : Option (List ℕ)} → MixedSession asked last []
  single_call : {last : Option (List ℕ)} {x : Exchange} {turns : List Turn} → Session asked last (x ∷ [])
      → MixedSession asked (last_form last (before_end (answers (x ∷ [])))) turns → MixedSession asked last (single x ∷ turns)
  batch_refused : {last : Option (List ℕ)} {x : BatchExchange} {turns : List Turn} (number : ℕ) → x.answer ≡ Refused number
      → MixedSession asked last turns → MixedSession asked last (many x ∷ turns)
  batch_answered : {last : Option (List ℕ)} {x : BatchExchange} {turns : List Turn} (forms : ℕ) → x.answer ≡ Done forms
      → x.batch.asked ≡ asked → x.batch.pattern ≡ pattern_after last
      → MixedSession asked (last_form last (read_off forms x.output x.found)) turns → MixedSession asked last (many x ∷ turns)
