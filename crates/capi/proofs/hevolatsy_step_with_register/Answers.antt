use mathlib.Core.Path.{sym, subst, ap, ◌∙◌}
use Rattle.crossing.specs.Number.{Fitting, reply_answer}
use Rattle.crossing.proofs.NumberLaws.{passed_on}
use Rattle.capi.proofs.ValueLaws.{call_fitting, reply_is, output_is}
use Rattle.capi.proofs.hevolatsy_step_with_register.Goals as goal

pub request_from-asked-requires : goal.request_from-asked-requires
request_from-asked-requires c = tt

pub step-requires : goal.step-requires
step-requires c = tt

pub replied-requires : goal.replied-requires
replied-requires c = subst Fitting (sym (ap reply_answer (reply_is c.step.ensures))) (call_fitting _)

pub number-requires : goal.number-requires
number-requires c = subst Fitting (sym (c.replied.ensures ∙ ap reply_answer (reply_is c.step.ensures))) (call_fitting _)

pub returns : goal.returns
returns c = let said = rw c.request_from-asked.ensures at c.step.ensures in
    record { value = passed_on _ _ _ c.number.ensures.value c.number.ensures.sfits (c.replied.ensures ∙ ap reply_answer (reply_is said)); output_after = output_is said }
