-- LAWS. One for each way out of the functions that check a register and list.
use mathlib.Core.Path.{◌≡◌, sym, ◌∙◌}
use mathlib.Core.Bool.{Bool, true, false}
use mathlib.Core.List.{List}
use Prim.Native.Nat.{ℕ}
use Rattle.terms.specs.Fleet.{IsFleet}
use Rattle.terms.specs.Tells.{Tells, decided}
use Rattle.terms.proofs.DecidedLaws.{said_yes, said_no}
use Rattle.terms.proofs.FleetLaws.{fleet?}
use Rattle.fleet.specs.declared.Answer.{Answer}
use Rattle.fleet.specs.declared.Answer.TheVariants.{Refused}
use Rattle.register.specs.Register.{IsRegister, register?, HoldersIfLent}
use Rattle.search.specs.declared.Request.{Request}
use Rattle.listing.specs.declared.Reply.TheVariants.{Refused as Declined}
use Rattle.listing.specs.Listing.{asks, asks_with}
use Rattle.listing.specs.Calls.{start, step, asked_of, bare_call, output_of, Outcome, outcome, answerTo}
use Rattle.listing.specs.Claims.{RightRegisterClaim}
use Rattle.listing.proofs.CallLaws.{answer_refused}
use Rattle.listing.proofs.RegisterLaws.{refusal_wrong, right_register_claim}
use Rattle.batch.specs.Batch.{batch_of}
use Rattle.batch.specs.Claims.{RightRegisterBatchClaim}
use Rattle.batch.proofs.BatchLaws.{Says}
use Rattle.batch.proofs.RegisterLaws.{batch_wrong, right_register_batch_claim}

module _ (fleet nodes holders : List ℕ) where
  abbrev pub Accepted : Type 0
  Accepted = IsFleet fleet × IsRegister fleet nodes holders

  -- `accepted`
  pub no_fleet : false ≡ decided (fleet? fleet) → ¬ Accepted
  no_fleet e k = said_no (fleet? fleet) e k.0

  pub by_register : (b : Bool) → true ≡ decided (fleet? fleet) → b ≡ decided (register? fleet nodes holders) → Tells b Accepted
  by_register true f e = (said_yes (fleet? fleet) f, said_yes (register? fleet nodes holders) e)
  by_register false f e = λ k. said_no (register? fleet nodes holders) e k.1

  -- what is handed on
  pub lent : Accepted → IsFleet fleet × HoldersIfLent fleet holders
  lent k = (k.0, λ _. k.1.holders_are)

  module _ (request : Request) (output : List ℕ) where
    pub start_wrong : ¬ Accepted → outcome (Declined 10) output ≡ answerTo (start (asks_with fleet nodes holders request) output)
    unfolding asked_of output_of
    start_wrong n = let call = start (asks_with fleet nodes holders request) output in sym (answer_refused call 9 (refusal_wrong call n))

    pub start_right : Accepted → {o : Outcome} → o ≡ answerTo (start (asks fleet request) output) → o ≡ answerTo (start (asks_with fleet nodes holders request) output)
    unfolding RightRegisterClaim asked_of bare_call
    start_right k e = e ∙ sym (right_register_claim (start (asks_with fleet nodes holders request) output) k.1)

    module _ (pattern : List ℕ) where
      pub step_wrong : ¬ Accepted → outcome (Declined 10) output ≡ answerTo (step (asks_with fleet nodes holders request) pattern output)
      unfolding asked_of output_of
      step_wrong n = let call = step (asks_with fleet nodes holders request) pattern output in sym (answer_refused call 9 (refusal_wrong call n))

      pub step_right : Accepted → {o : Outcome} → o ≡ answerTo (step (asks fleet request) pattern output) → o ≡ answerTo (step (asks_with fleet nodes holders request) pattern output)
      unfolding RightRegisterClaim asked_of bare_call
      step_right k e = e ∙ sym (right_register_claim (step (asks_with fleet nodes holders request) pattern output) k.1)

      module _ (found : List ℕ) where
        pub batch_refused : ¬ Accepted → Says (batch_of (asks_with fleet nodes holders request) pattern output found) (Refused 10) output found
        batch_refused n = batch_wrong (batch_of (asks_with fleet nodes holders request) pattern output found) n

        pub batch_right : Accepted → {a : Answer} {output' found' : List ℕ} → Says (batch_of (asks fleet request) pattern output found) a output' found'
            → Says (batch_of (asks_with fleet nodes holders request) pattern output found) a output' found'
        unfolding RightRegisterBatchClaim
        batch_right k says =
            let same = right_register_batch_claim (batch_of (asks_with fleet nodes holders request) pattern output found) k.1 in
            (says.0 ∙ sym same.0, (says.1.0 ∙ sym same.1, says.1.1 ∙ sym same.2))
