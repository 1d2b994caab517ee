use mathlib.Core.Path.{sym, subst}
use Rattle.crossing.specs.Number.{Fitting}
use Rattle.crossing.proofs.NumberLaws.{passed_on}
use Rattle.capi.proofs.ValueLaws.{form_fitting}
use Rattle.capi.proofs.hevolatsy_form.Goals as goal

pub form-requires : goal.form-requires
form-requires c = tt

pub number-requires : goal.number-requires
number-requires c = subst Fitting (sym c.form.ensures.value) (form_fitting _ _)

pub returns : goal.returns
returns c = record { value = passed_on _ _ _ c.number.ensures.value c.number.ensures.sfits c.form.ensures.value; output_after = c.form.ensures.output_after }
