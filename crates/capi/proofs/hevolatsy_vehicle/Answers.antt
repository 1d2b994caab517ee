use mathlib.Core.Path.{sym, subst}
use Rattle.crossing.specs.Number.{Fitting}
use Rattle.crossing.proofs.NumberLaws.{passed_on}
use Rattle.capi.proofs.ValueLaws.{vehicle_fitting}
use Rattle.capi.proofs.hevolatsy_vehicle.Goals as goal

pub vehicle-requires : goal.vehicle-requires
vehicle-requires c = tt

pub number-requires : goal.number-requires
number-requires c = subst Fitting (sym c.vehicle.ensures) (vehicle_fitting _ _)

pub returns : goal.returns
returns c = passed_on _ _ _ c.number.ensures.value c.number.ensures.sfits c.vehicle.ensures
