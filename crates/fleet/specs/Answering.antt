-- What an `Answer` says, in document 01's terms: the value of a call that is answered, the number of one that is refused.
use Rattle.std.specs.Prelude.{ℕ, zero, suc}
use Rattle.fleet.specs.declared.Answer.{Answer}
use Rattle.fleet.specs.declared.Answer.TheVariants.{Done, Refused}

-- The answer of a call whose refusal number is given (0: none).
unfoldable pub answer : (refusal value : ℕ) → Answer
answer zero value = Done value
answer (suc number) value = Refused (suc number)
