use mathlib.Core.Path.{sym, subst, ap, ◌∙◌}
use Rattle.crossing.specs.Number.{Fitting, placement_answer}
use Rattle.crossing.proofs.NumberLaws.{passed_on}
use Rattle.capi.proofs.ValueLaws.{place_fitting}
use Rattle.capi.proofs.hevolatsy_place.Goals as goal

pub place-requires : goal.place-requires
place-requires c = tt

pub placed-requires : goal.placed-requires
placed-requires c = tt

pub number-requires : goal.number-requires
number-requires c = subst Fitting (sym (c.placed.ensures ∙ ap placement_answer c.place.ensures.0)) (place_fitting _ _ _ _)

pub returns : goal.returns
returns c = record { value = passed_on _ _ _ c.number.ensures.value c.number.ensures.sfits (c.placed.ensures ∙ ap placement_answer c.place.ensures.0); output_after = c.place.ensures.1 }
