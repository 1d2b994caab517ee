-- LAWS. Every number that is returned fits 64 bits with a sign.
use mathlib.Core.Path.{◌≡◌, sym, subst, ◌∙◌, ap}
use Prim.Native.Nat.{ℕ, zero, suc, ◌+◌, ◌*◌, ◌≤◌, ◌<◌}
use native.Mathlib.Omega.{arith}
use lib.IntN.{ℤ, pos, neg_ℤ, ◌-ℤ◌, +ℤ_idl}
use mir.Syntax.{w64}
use mir.Val.{SFits, to_z, of_z}
use mir.ValLaws.{to_z-of_z, to_z_pos}
use Rattle.fleet.specs.declared.Answer.{Answer}
use Rattle.fleet.specs.declared.Answer.TheVariants.{Done, Refused}
use Rattle.listing.specs.declared.Reply.{Reply}
use Rattle.listing.specs.declared.Reply.TheVariants as reply
use Rattle.crossing.specs.Number.{number_of, Fitting, most_value, reply_answer}

pub value_fits : (v : ℕ) → v ≤ most_value → SFits w64 (pos v)
value_fits v h = record { sfits = omega arith }

pub refusal_fits : (n : ℕ) → n < 256 → SFits w64 (neg_ℤ (pos n))
refusal_fits zero h = record { sfits = omega arith }
refusal_fits (suc n) h = record { sfits = omega arith }

pub done_fits : (a : Answer) (v : ℕ) → a ≡ Done v → Fitting a → SFits w64 (pos v)
done_fits a v e h = value_fits v (subst Fitting e h)

-- what the machine subtracts from 0 is the refusal's number
pub negated : (n : ℕ) → n < 256 → pos 0 -ℤ to_z w64 n ≡ neg_ℤ (pos n)
negated n h = ap (λ z. pos 0 -ℤ z) (to_z_pos w64 n (omega arith)) ∙ +ℤ_idl (neg_ℤ (pos n))

pub negated_fits : (n : ℕ) → n < 256 → SFits w64 (pos 0 -ℤ to_z w64 n)
negated_fits n h = subst (SFits w64) (sym (negated n h)) (refusal_fits n h)

pub says_done : (a : Answer) (v : ℕ) → a ≡ Done v → Fitting a → (to_z w64 v ≡ number_of a) × SFits w64 (to_z w64 v)
unfolding number_of
says_done a v e h = (says ∙ sym (ap number_of e), subst (SFits w64) (sym says) (done_fits a v e h))
  where
    says : to_z w64 v ≡ pos v
    says = to_z_pos w64 v (done_fits a v e h).sfits

pub says_refused : (a : Answer) (n : ℕ) → a ≡ Refused n → n < 256 → (to_z w64 (of_z w64 (pos 0 -ℤ to_z w64 n)) ≡ number_of a) × SFits w64 (to_z w64 (of_z w64 (pos 0 -ℤ to_z w64 n)))
unfolding number_of
says_refused a n e h = (says ∙ sym (ap number_of e), subst (SFits w64) (sym says) (refusal_fits n h))
  where
    says : to_z w64 (of_z w64 (pos 0 -ℤ to_z w64 n)) ≡ neg_ℤ (pos n)
    says = to_z-of_z w64 _ (negated_fits n h) ∙ negated n h

-- the number of a call that `number` is handed the answer of
pub passed_on : (r : ℤ) (got told : Answer) → r ≡ number_of got → SFits w64 r → got ≡ told → to_z w64 (of_z w64 r) ≡ number_of told
passed_on r got told e f g = to_z-of_z w64 r f ∙ e ∙ ap number_of g

-- a form's number of nodes and support in one value
pub form_value : (r : Reply) (nodes support : ℕ) → r ≡ reply.Form nodes support → Fitting (reply_answer r) → 100 * support + nodes ≤ most_value
unfolding reply_answer
form_value r nodes support e h = subst (λ x. Fitting (reply_answer x)) e h
