use mathlib.Core.Path.{refl}
use native.Mathlib.Omega.{arith}
use Rattle.fleet.proofs.State.join.Goals as goal

pub returns-then-number-gt0 : goal.returns-then-number-gt0
returns-then-number-gt0 c = λ before s. record { number_is = c.broken-number.ensures.by_index before s; joins = λ z. absurd (omega (arith, c.if-number-gt0.true)); stays = λ _. refl }

pub after-requires : goal.after-requires
after-requires c = c.broken-number.ensures.may_come (omega arith)

pub returns : goal.returns
returns c = let none = c.broken-number.ensures.by_index in λ before s. record { number_is = omega (arith, none before s); joins = λ _. c.after.ensures before s; stays = λ h. absurd (omega arith) }
