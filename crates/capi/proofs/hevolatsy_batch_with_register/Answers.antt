use native.Mathlib.Omega.{arith}
use mathlib.Core.Path.{sym, subst}
use Rattle.crossing.specs.Number.{Fitting}
use Rattle.crossing.proofs.NumberLaws.{passed_on}
use Rattle.capi.proofs.ValueLaws.{batch_fitting}
use Rattle.capi.proofs.hevolatsy_batch_with_register.Goals as goal

pub request_from-asked-requires : goal.request_from-asked-requires
request_from-asked-requires c = tt

pub batch-requires : goal.batch-requires
batch-requires c = tt

pub number-requires : goal.number-requires
number-requires c = subst Fitting (sym c.batch.ensures.value) (batch_fitting _ (omega arith))

pub returns : goal.returns
returns c = let said = rw c.request_from-asked.ensures at c.batch.ensures in
    record { value = passed_on _ _ _ c.number.ensures.value c.number.ensures.sfits said.value; output_after = said.output_after; found_after = said.found_after }
