-- LAWS. What calls in a row give, by what the search finds.
use mathlib.Core.Path.{◌≡◌, refl, sym, ap, ◌∙◌}
use mathlib.Core.List.{List, [], ◌∷◌, ◌++◌}
use mathlib.Core.Option.{none, some}
use Prim.Native.Nat.{ℕ, zero, suc, ◌-◌, ◌≤◌, ◌<◌}
use native.Mathlib.Omega.{arith}
use native.Mathlib.Decide.{dec_le}
use lib.ListN.{length, take, drop}
use lib.Seq.{take-append_seam}
use Rattle.terms.specs.Fleet.{IsFleet}
use Rattle.terms.specs.Refusal.{refusal}
use Rattle.terms.specs.Remarks.{without_remarks}
use Rattle.search.specs.declared.Request.{Request}
use Rattle.search.specs.declared.Pattern.{Pattern}
use Rattle.search.specs.declared.FrequentPattern.{FrequentPattern}
use Rattle.std.specs.Prelude.{Option}
use Rattle.search.specs.Counted.{Entry}
use Rattle.search.specs.Search.{pairs_of, entry_of}
use Rattle.profiles.specs.Selected.{SelectedFirst}
use Rattle.listing.specs.declared.Reply.{Reply}
use Rattle.listing.specs.declared.Reply.TheVariants.{Form, End, Refused}
use Rattle.listing.specs.Listing.{Asked, asks}
use Rattle.listing.specs.ListedSelected.{search_of}
use Rattle.listing.specs.Calls.{Outcome, outcome, answerTo, handed}
use Rattle.listing.specs.Session.{Exchange, and_then, answers, before_end}
use Rattle.listing.specs.Claims.{StartWithoutRemarksClaim, StepWithoutRemarksClaim}
use Rattle.listing.proofs.StartStepLaws.{start_given, step_given}
use Rattle.listing.proofs.RemarkListLaws.{start_without_remarks_claim, step_without_remarks_claim}
use Rattle.filling.specs.Row.{call_after, if_so, after_form, in_a_row, row_entries}
use Rattle.filling.specs.Filling.{after_rules, FillInput}

-- no more forms than places
pub row_few : (asked : Asked) (pattern output : List ℕ) (room places : ℕ) → length (row_entries asked pattern output room places) ≤ places
unfolding in_a_row if_so after_form answers and_then before_end
row_few asked pattern output room zero = omega arith
row_few asked pattern output room (suc places) =
    go (dec_le asked.request.bound room) (answerTo (call_after asked pattern output)).reply (λ p nodes. row_few asked p output (room - nodes) places)
  where
    o : Outcome
    o = answerTo (call_after asked pattern output)

    rest : ℕ → List Exchange
    rest nodes = in_a_row asked (take nodes o.output) output (room - nodes) places

    go : (d : Dec (asked.request.bound ≤ room)) (r : Reply) → ((p : List ℕ) (nodes : ℕ) → length (row_entries asked p output (room - nodes) places) ≤ places)
        → length (before_end (answers (if_so d (record { call = call_after asked pattern output; outcome = outcome r o.output } ∷ after_form r rest)))) ≤ suc places
    go (no _) r few = omega arith
    go (yes _) (Form nodes held) few = omega (arith, few (take nodes o.output) nodes)
    go (yes _) End few = omega arith
    go (yes _) (Refused number) few = omega arith

-- what the call after a pattern hands out is what the search finds there
pub call_finds : (asked : Asked) (output : List ℕ) (pattern : Pattern) (next : Option FrequentPattern) → FillInput asked (pairs_of pattern) → asked.request.bound ≤ length output → SelectedFirst (search_of asked) pattern next
    → answerTo (call_after asked (pairs_of pattern) output) ≡ handed (entry_of next) output
unfolding call_after after_rules
call_finds asked output pattern next i h n = go (pairs_of pattern) refl i.may_follow
  where
    go : (p : List ℕ) → pairs_of pattern ≡ p → refusal (after_rules p asked.request.bound) ≡ 0 → answerTo (call_after asked p output) ≡ handed (entry_of next) output
    go [] e k = sym (start_given asked output 0 (sym i.accepted) refl h pattern e next n)
    go (x ∷ p) e k = sym (step_given asked (x ∷ p) output 0 (sym i.accepted) 0 refl (sym k) refl h pattern e next n)

module _ (asked : Asked) (pattern output : List ℕ) (room : ℕ) where
  -- no room for one more
  pub row_full : (places : ℕ) → room < asked.request.bound → row_entries asked pattern output room places ≡ []
  unfolding in_a_row if_so answers before_end
  row_full zero h = refl
  row_full (suc places) h = go (dec_le asked.request.bound room) _
    where
      go : (d : Dec (asked.request.bound ≤ room)) (xs : List Exchange) → before_end (answers (if_so d xs)) ≡ []
      go (yes k) xs = absurd (omega arith)
      go (no _) xs = refl

  pub row_none : row_entries asked pattern output room 0 ≡ []
  unfolding in_a_row answers before_end
  row_none = refl

  -- a form is found: it comes first
  pub row_found : (places : ℕ) (entry : Entry) → asked.request.bound ≤ room → answerTo (call_after asked pattern output) ≡ handed (some entry) output
      → row_entries asked pattern output room (suc places) ≡ entry ∷ row_entries asked entry.form output (room - length entry.form) places
  unfolding in_a_row if_so after_form handed answers and_then before_end
  row_found places entry h e = go (dec_le asked.request.bound room) (answerTo (call_after asked pattern output)) e
    where
      f : List ℕ
      f = entry.form

      rest : Outcome → ℕ → List Exchange
      rest o nodes = in_a_row asked (take nodes o.output) output (room - nodes) places

      go : (d : Dec (asked.request.bound ≤ room)) (o : Outcome) → o ≡ outcome (Form (length f) entry.held) (f ++ drop (length f) output)
          → before_end (answers (if_so d (record { call = call_after asked pattern output; outcome = o } ∷ after_form o.reply (rest o)))) ≡ entry ∷ row_entries asked f output (room - length f) places
      go (no k) o q = absurd (k h)
      go (yes _) o q = rw (q, take-append_seam f (drop (length f) output))

  -- none is found: nothing comes
  pub row_ended : (places : ℕ) → answerTo (call_after asked pattern output) ≡ handed none output → row_entries asked pattern output room places ≡ []
  unfolding in_a_row if_so after_form handed answers and_then before_end
  row_ended zero e = refl
  row_ended (suc places) e = go (dec_le asked.request.bound room) (answerTo (call_after asked pattern output)) e
    where
      rest : Outcome → ℕ → List Exchange
      rest o nodes = in_a_row asked (take nodes o.output) output (room - nodes) places

      go : (d : Dec (asked.request.bound ≤ room)) (o : Outcome) → o ≡ outcome End output
          → before_end (answers (if_so d (record { call = call_after asked pattern output; outcome = o } ∷ after_form o.reply (rest o)))) ≡ []
      go (no k) o q = refl
      go (yes _) o q = rw q

-- calls in a row give the same forms when the remarks are taken out
module _ (fleet : List ℕ) (request : Request) (f : IsFleet fleet) (output : List ℕ) where
  abbrev here : Asked
  here = asks fleet request

  abbrev there : Asked
  there = asks (without_remarks fleet) request

  same_call : (pattern : List ℕ) → answerTo (call_after here pattern output) ≡ answerTo (call_after there pattern output)
  unfolding call_after StartWithoutRemarksClaim StepWithoutRemarksClaim
  same_call [] = start_without_remarks_claim fleet request output f
  same_call (x ∷ pattern) = step_without_remarks_claim fleet request (x ∷ pattern) output f

  -- what is given from a call on, by what it answers
  given_by : Asked → (pattern : List ℕ) (room places : ℕ) → Dec (request.bound ≤ room) → Outcome → List Entry
  given_by asked pattern room places d o = before_end (answers (if_so d (record { call = call_after asked pattern output; outcome = o } ∷ after_form o.reply (λ nodes. in_a_row asked (take nodes o.output) output (room - nodes) places))))

  pub row_without_remarks : (places : ℕ) (pattern : List ℕ) (room : ℕ) → row_entries here pattern output room places ≡ row_entries there pattern output room places
  unfolding in_a_row if_so after_form answers and_then before_end given_by
  row_without_remarks zero pattern room = refl
  row_without_remarks (suc places) pattern room =
      go (dec_le request.bound room) (answerTo (call_after here pattern output)).reply (answerTo (call_after here pattern output)).output (λ p nodes. row_without_remarks places p (room - nodes))
      ∙ ap (given_by there pattern room places (dec_le request.bound room)) (same_call pattern)
    where
      go : (d : Dec (request.bound ≤ room)) (r : Reply) (out : List ℕ) → ((p : List ℕ) (nodes : ℕ) → row_entries here p output (room - nodes) places ≡ row_entries there p output (room - nodes) places)
          → given_by here pattern room places d (outcome r out) ≡ given_by there pattern room places d (outcome r out)
      go (no _) r out rest = refl
      go (yes _) (Form nodes held) out rest = ap (λ (l : List Entry). record { form = take nodes out; held = held } ∷ l) (rest (take nodes out) nodes)
      go (yes _) End out rest = refl
      go (yes _) (Refused number) out rest = refl
