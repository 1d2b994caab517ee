use native.Mathlib.Omega.{arith}
use Rattle.crossing.proofs.NumberLaws.{done_fits, negated_fits, says_done, says_refused}
use Rattle.crossing.proofs.number.Goals as goal

pub overflow_cast-result : goal.overflow_cast-result
overflow_cast-result c = done_fits _ _ c.in-Done.is c.requires

pub overflow_sub-result : goal.overflow_sub-result
overflow_sub-result c = negated_fits c.in-Refused.refusal (omega arith)

pub returns-in-Done : goal.returns-in-Done
returns-in-Done c = let z = says_done _ _ c.in-Done.is c.requires in record { value = z.0; sfits = z.1 }

pub returns-in-Refused : goal.returns-in-Refused
returns-in-Refused c = let z = says_refused _ c.in-Refused.refusal c.in-Refused.is (omega arith) in record { value = z.0; sfits = z.1 }
