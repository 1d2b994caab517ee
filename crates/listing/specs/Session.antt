-- Document 01, "The list": a session, its answers, a listing; and what the session claim says of the answers.
use Rattle.std.specs.Prelude.{◌≡◌, List, [], ◌∷◌, ℕ, ◌≤◌, ◌<◌, length, get_or, take}
use Rattle.std.proofs.Math.Option.{Option, none, some}
use Rattle.search.specs.Counted.{Entry}
use Rattle.listing.specs.declared.Reply.{Reply}
use Rattle.listing.specs.declared.Reply.TheVariants.{Form, End, Refused}
use Rattle.listing.specs.Listing.{Asked, no_entry}
use Rattle.listing.specs.Calls.{Call, start, step, Outcome, answerTo}

-- A call, with what it returned and left in the output.
pub record Exchange : Type 0 where
  pub call : Call
  pub outcome : Outcome

-- Each call did what its contract says.
pub data AsPromised : List Exchange → Type 0 where
  no_more : AsPromised []
  and_also : {x : Exchange} {xs : List Exchange} → x.outcome ≡ answerTo x.call → AsPromised xs → AsPromised (x ∷ xs)

-- The answered call that is due, by the last form given, if any: "Until a form has been given they are starts; from then on they are steps,
-- each with the last form given as its pattern". "Each call may have another output."
pub data Due (asked : Asked) : Option (List ℕ) → Call → Type 0 where
  a_start : (output : List ℕ) → Due asked none (start asked output)
  a_step : (form output : List ℕ) → Due asked (some form) (step asked form output)

-- "A session is any list of start and step calls, refused ones included." It goes on from the last form given, if any.
pub data Session (asked : Asked) : Option (List ℕ) → List Exchange → Type 0 where
  over : {last : Option (List ℕ)} → Session asked last []
  -- "A refused call, whatever the cause and whatever it was given, may stand anywhere and leaves the session where it was."
  refused : {last : Option (List ℕ)} {x : Exchange} {xs : List Exchange} (number : ℕ) → x.outcome.reply ≡ Refused number
      → Session asked last xs → Session asked last (x ∷ xs)
  form_given : {last : Option (List ℕ)} {x : Exchange} {xs : List Exchange} (nodes held : ℕ) → Due asked last x.call → x.outcome.reply ≡ Form nodes held
      → Session asked (some (take nodes x.outcome.output)) xs → Session asked last (x ∷ xs)
  end_given : {last : Option (List ℕ)} {x : Exchange} {xs : List Exchange} → Due asked last x.call → x.outcome.reply ≡ End
      → Session asked last xs → Session asked last (x ∷ xs)

-- "An answer is a form (the pairs put in the output, as many as the length says) with its support, or end."
pub data Answer : Type 0 where
  given : Entry → Answer
  ended : Answer

unfoldable pub and_then : Reply → List ℕ → List Answer → List Answer
and_then (Form nodes held) output rest = given (record { form = take nodes output; held = held }) ∷ rest
and_then End output rest = ended ∷ rest
and_then (Refused number) output rest = rest

unfoldable pub answers : List Exchange → List Answer
answers [] = []
answers (x ∷ xs) = and_then x.outcome.reply x.outcome.output (answers xs)

-- "Where the list has n forms, the first n answers of any session, as far as they go, are these forms with their supports, lightest first,
-- and every further answer is end."
pub record GoThrough (entries : List Entry) (told : List Answer) : Type 0 where
  pub forms_first : (i : ℕ) → i < length told → i < length entries → get_or told i ended ≡ given (get_or entries i no_entry)
  pub then_end : (i : ℕ) → i < length told → length entries ≤ i → get_or told i ended ≡ ended

-- "A listing is the forms with their supports that a session which reaches end gives before its first end."
unfoldable pub before_end : List Answer → List Entry
before_end [] = []
before_end (given entry ∷ told) = entry ∷ before_end told
before_end (ended ∷ told) = []

pub record ListingOf (asked : Asked) (entries : List Entry) : Type 0 where
  pub exchanges : List Exchange
  pub as_promised : AsPromised exchanges
  pub session : Session asked none exchanges
  pub end_at : ℕ
  pub reaches_end : (end_at < length (answers exchanges)) × (get_or (answers exchanges) end_at (given no_entry) ≡ ended)
  pub gives : before_end (answers exchanges) ≡ entries
