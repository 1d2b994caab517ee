-- LAWS. One for each way out of write.
use mathlib.Core.Path.{◌≡◌, refl}
use mathlib.Core.Bool.{Bool, true, false}
use mathlib.Core.List.{List, [], ◌∷◌, ◌++◌}
use Prim.Native.Nat.{ℕ, ◌≤◌, ◌<◌}
use native.Mathlib.Omega.{arith}
use lib.ListN.{length, drop}
use Rattle.terms.specs.Fleet.{most_nodes}
use Rattle.terms.specs.Refusal.{refusal, output_after, this, later, none, also}
use Rattle.terms.specs.Tells.{decided}
use Rattle.terms.proofs.DecidedLaws.{true_holds, false_fails}
use Rattle.terms.proofs.RefusalLaws.{first_broken_refusal, all_kept_refusal}
use Rattle.terms.proofs.FleetLaws.{fleet?}
use Rattle.fleet.specs.Answering.{answer}
use Rattle.fleet.specs.Rules.{fleet_rule, output_rule}
use Rattle.fleet.specs.declared.Answer.TheVariants.{Done, Refused}
use Rattle.fleet.proofs.AnswerLaws.{refused_with, done_with}
use Rattle.writing.specs.Writing.{writing}
use Rattle.sheet.specs.WriteCall.{write_answer, write_output}

-- the ways out of a call that puts what it makes of a fleet at the front of an output
module _ (pairs output result : List ℕ) (b : Bool) (e : b ≡ decided (fleet? pairs)) where
  abbrev pub number : ℕ
  number = refusal (fleet_rule pairs ∷ output_rule (length result) output ∷ [])

  pub no_fleet : b ≡ false → (Refused 10 ≡ answer number (length result)) × (output ≡ output_after number result output)
  no_fleet t = refused_with number 9 _ _ _ (first_broken_refusal (this (false_fails (fleet? pairs) b e t) refl))

  pub short_output : (size : ℕ) → b ≡ true → size ≡ length result → length output < size → (Refused 17 ≡ answer number (length result)) × (output ≡ output_after number result output)
  short_output size t w h =
      let n : ¬ (length result ≤ length output) = λ q. omega arith in
      refused_with number 16 _ _ _ (first_broken_refusal (later (true_holds (fleet? pairs) b e t) (this n refl)))

  pub all_put : (size : ℕ) (exit : List ℕ) → b ≡ true → size ≡ length result → size ≤ length output → exit ≡ result ++ drop (length result) output → (Done size ≡ answer number (length result)) × (exit ≡ output_after number result output)
  all_put size exit t w h q =
      let room : length result ≤ length output = omega arith in
      rw w (done_with number _ result output exit (all_kept_refusal (also (true_holds (fleet? pairs) b e t) (also room none))) q)

-- those of write
module _ (pairs output : List ℕ) (b : Bool) (e : b ≡ decided (fleet? pairs)) where
  pub fleet_nodes : b ≡ true → length pairs ≤ most_nodes
  fleet_nodes t = (true_holds (fleet? pairs) b e t).nodes

  pub write_10 : b ≡ false → (Refused 10 ≡ write_answer pairs output) × (output ≡ write_output pairs output)
  unfolding write_answer write_output
  write_10 = no_fleet pairs output (writing pairs) b e

  pub write_17 : (size : ℕ) → b ≡ true → size ≡ length (writing pairs) → length output < size → (Refused 17 ≡ write_answer pairs output) × (output ≡ write_output pairs output)
  unfolding write_answer write_output
  write_17 = short_output pairs output (writing pairs) b e

  pub write_done : (size : ℕ) (exit : List ℕ) → b ≡ true → size ≡ length (writing pairs) → size ≤ length output → exit ≡ writing pairs ++ drop (length (writing pairs)) output → (Done size ≡ write_answer pairs output) × (exit ≡ write_output pairs output)
  unfolding write_answer write_output
  write_done = all_put pairs output (writing pairs) b e
