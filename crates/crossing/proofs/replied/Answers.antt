use mathlib.Core.Path.{sym, ap}
use native.Mathlib.Omega.{arith}
use Rattle.crossing.specs.Number.{reply_answer}
use Rattle.crossing.proofs.NumberLaws.{form_value}
use Rattle.crossing.proofs.replied.Goals as goal

pub overflow_mul-result : goal.overflow_mul-result
overflow_mul-result c = record { fits = omega (arith, form_value _ _ _ c.in-Form.is c.requires) }

pub overflow_add-result : goal.overflow_add-result
overflow_add-result c = record { fits = omega (arith, form_value _ _ _ c.in-Form.is c.requires) }

pub returns-in-Form : goal.returns-in-Form
unfolding reply_answer
returns-in-Form c = sym (ap reply_answer c.in-Form.is)

pub returns-in-End : goal.returns-in-End
unfolding reply_answer
returns-in-End c = sym (ap reply_answer c.in-End.is)

pub returns-in-Refused : goal.returns-in-Refused
unfolding reply_answer
returns-in-Refused c = sym (ap reply_answer c.in-Refused.is)
