use mathlib.Core.Path.{sym, subst}
use Rattle.crossing.specs.Number.{Fitting}
use Rattle.crossing.proofs.NumberLaws.{passed_on}
use Rattle.capi.proofs.ValueLaws.{write_fitting}
use Rattle.capi.proofs.hevolatsy_write.Goals as goal

pub write-requires : goal.write-requires
write-requires c = tt

pub number-requires : goal.number-requires
number-requires c = subst Fitting (sym c.write.ensures.value) (write_fitting _ _)

pub returns : goal.returns
returns c = record { value = passed_on _ _ _ c.number.ensures.value c.number.ensures.sfits c.write.ensures.value; output_after = c.write.ensures.output_after }
