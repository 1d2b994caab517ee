use mathlib.Core.Path.{sym, subst}
use Rattle.crossing.specs.Number.{Fitting}
use Rattle.crossing.proofs.NumberLaws.{passed_on}
use Rattle.capi.proofs.ValueLaws.{swap_fitting}
use Rattle.capi.proofs.hevolatsy_swap.Goals as goal

pub swap-requires : goal.swap-requires
swap-requires c = tt

pub number-requires : goal.number-requires
number-requires c = subst Fitting (sym c.swap.ensures.value) (swap_fitting _)

pub returns : goal.returns
returns c = record { value = passed_on _ _ _ c.number.ensures.value c.number.ensures.sfits c.swap.ensures.value; buffer_after = c.swap.ensures.buffer_after; nodes_after = c.swap.ensures.nodes_after; holders_after = c.swap.ensures.holders_after }
