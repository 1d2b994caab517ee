use mathlib.Core.Path.{sym, subst}
use Rattle.crossing.specs.Number.{Fitting}
use Rattle.crossing.proofs.NumberLaws.{passed_on}
use Rattle.capi.proofs.ValueLaws.{register_fitting}
use Rattle.capi.proofs.hevolatsy_register.Goals as goal

pub register-requires : goal.register-requires
register-requires c = tt

pub number-requires : goal.number-requires
number-requires c = subst Fitting (sym c.register.ensures.value) (register_fitting _ _ _)

pub returns : goal.returns
returns c = record { value = passed_on _ _ _ c.number.ensures.value c.number.ensures.sfits c.register.ensures.value; nodes_after = c.register.ensures.nodes_after; holders_after = c.register.ensures.holders_after }
