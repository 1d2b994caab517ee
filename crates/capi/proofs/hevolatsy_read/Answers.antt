use mathlib.Core.Path.{sym, subst}
use Rattle.crossing.specs.Number.{Fitting}
use Rattle.crossing.proofs.NumberLaws.{passed_on}
use Rattle.capi.proofs.ValueLaws.{read_fitting}
use Rattle.capi.proofs.hevolatsy_read.Goals as goal

pub read-requires : goal.read-requires
read-requires c = tt

pub number-requires : goal.number-requires
number-requires c = subst Fitting (sym c.read.ensures.value) (read_fitting _ _)

pub returns : goal.returns
returns c = record { value = passed_on _ _ _ c.number.ensures.value c.number.ensures.sfits c.read.ensures.value; output_after = c.read.ensures.output_after }
