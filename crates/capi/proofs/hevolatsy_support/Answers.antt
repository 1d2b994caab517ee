use mathlib.Core.Path.{sym, subst}
use Rattle.crossing.specs.Number.{Fitting}
use Rattle.crossing.proofs.NumberLaws.{passed_on}
use Rattle.capi.proofs.ValueLaws.{support_fitting}
use Rattle.capi.proofs.hevolatsy_support.Goals as goal

pub support-requires : goal.support-requires
support-requires c = tt

pub number-requires : goal.number-requires
number-requires c = subst Fitting (sym c.support.ensures) (support_fitting _ _)

pub returns : goal.returns
returns c = passed_on _ _ _ c.number.ensures.value c.number.ensures.sfits c.support.ensures
