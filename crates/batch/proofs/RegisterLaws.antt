-- The claims about batches with a register: each call in its row answers what it does without one.
use mathlib.Core.Path.{◌≡◌, refl, sym, ap}
use mathlib.Core.List.{List, [], ◌∷◌, ◌++◌}
use Prim.Native.Nat.{ℕ, zero, suc, ◌-◌, ◌≤◌}
use native.Mathlib.Decide.{dec_le}
use lib.ListN.{length, take}
use Rattle.terms.specs.Fleet.{IsFleet}
use Rattle.terms.specs.Refusal.{refusal}
use Rattle.fleet.specs.declared.Answer.TheVariants.{Refused as Declined}
use Rattle.search.specs.Counted.{Entry}
use Rattle.listing.specs.declared.Reply.{Reply}
use Rattle.listing.specs.declared.Reply.TheVariants.{Form, End, Refused}
use Rattle.listing.specs.Listing.{Asked, bare}
use Rattle.listing.specs.Calls.{RegisterRight, asked_of, bare_call, Outcome, outcome, answerTo}
use Rattle.listing.specs.Session.{Exchange, and_then, answers, before_end}
use Rattle.listing.specs.Claims.{RightRegisterClaim}
use Rattle.listing.proofs.AskedLaws.{right_skipped, wrong_refused}
use Rattle.listing.proofs.RegisterLaws.{right_register_claim}
use Rattle.filling.specs.Row.{call_after, if_so, after_form, in_a_row, row_entries}
use Rattle.filling.specs.Filling.{after_rules}
use Rattle.batch.specs.Batch.{Batch, bare_batch, batch_rules, batch_answer, batch_output, batch_found}
use Rattle.batch.specs.Claims.{RightRegisterBatchClaim, WrongRegisterBatchClaim}
use Rattle.batch.proofs.BatchLaws.{Says, outputs, refused_with}

module _ (asked : Asked) (right : RegisterRight asked) (output : List ℕ) where
  -- the call after a pattern answers what it does without the register
  same_answer : (pattern : List ℕ) → answerTo (call_after asked pattern output) ≡ answerTo (call_after (bare asked) pattern output)
  unfolding RightRegisterClaim call_after asked_of bare_call
  same_answer [] = right_register_claim (call_after asked [] output) right
  same_answer (x ∷ pattern) = right_register_claim (call_after asked (x ∷ pattern) output) right

  -- a row, by what its first call answers
  abbrev row : Asked → (pattern : List ℕ) (room places : ℕ) → Dec (asked.request.bound ≤ room) → Outcome → List Exchange
  row q pattern room places d o = if_so d (record { call = call_after q pattern output; outcome = o } ∷ after_form o.reply (λ nodes. in_a_row q (take nodes o.output) output (room - nodes) places))

  -- so a row of them gives the same forms
  same_row : (places : ℕ) (pattern : List ℕ) (room : ℕ) → row_entries asked pattern output room places ≡ row_entries (bare asked) pattern output room places
  unfolding in_a_row if_so after_form answers and_then before_end
  same_row zero pattern room = refl
  same_row (suc places) pattern room = go (dec_le asked.request.bound room) (answerTo (call_after asked pattern output)) (same_answer pattern) (same_row places)
    where
      Same : Dec (asked.request.bound ≤ room) → (o o' : Outcome) → Type 0
      Same d o o' = before_end (answers (row asked pattern room places d o)) ≡ before_end (answers (row (bare asked) pattern room places d o'))

      go : (d : Dec (asked.request.bound ≤ room)) (o : Outcome) → o ≡ answerTo (call_after (bare asked) pattern output)
          → ((p : List ℕ) (r : ℕ) → row_entries asked p output r places ≡ row_entries (bare asked) p output r places) → Same d o (answerTo (call_after (bare asked) pattern output))
      go (no _) o e next = refl
      go (yes h) o e next = rw (← e) (at o.reply)
        where
          at : (r : Reply) → Same (yes h) (outcome r o.output) (outcome r o.output)
          at (Form nodes held) = ap (λ (entries : List Entry). record { form = take nodes o.output; held = held } ∷ entries) (next (take nodes o.output) (room - nodes))
          at End = refl
          at (Refused number) = refl

same_refusal : (b : Batch) → RegisterRight b.asked → refusal (batch_rules b) ≡ refusal (batch_rules (bare_batch b))
unfolding batch_rules
same_refusal b h = right_skipped b.asked (after_rules b.pattern b.asked.request.bound ++ outputs b) h

pub right_register_batch_claim : RightRegisterBatchClaim
unfolding RightRegisterBatchClaim batch_answer batch_output batch_found
right_register_batch_claim b h =
    let r = same_refusal b h in
    let s = same_row b.asked h b.output (length b.found) b.pattern (length b.output) in
    (rw (r, s), rw (r, s), rw (r, s))

pub batch_wrong : (b : Batch) → ¬ (IsFleet b.asked.fleet × RegisterRight b.asked) → Says b (Declined 10) b.output b.found
unfolding batch_rules
batch_wrong b n = refused_with b 9 (wrong_refused b.asked (after_rules b.pattern b.asked.request.bound ++ outputs b) n)

pub wrong_register_batch_claim : WrongRegisterBatchClaim
unfolding WrongRegisterBatchClaim
wrong_register_batch_claim b n = let says = batch_wrong b (λ k. n k.1) in (sym says.0, sym says.1.0, sym says.1.1)
