use Rattle.std.proofs.Common.{rules}
use Rattle.paper.proofs.PutLaws.{one_counted, more_counted, count_fits}
use Rattle.paper.proofs.+digits.Goals as goal

pub returns-then-n-lt10 : goal.returns-then-n-lt10
returns-then-n-lt10 t c = one_counted _ (search rules)

pub overflow_add-result : goal.overflow_add-result
overflow_add-result t c = count_fits _ c.digits.ensures (search rules)

pub returns : goal.returns
returns t c = more_counted _ c.digits.ensures (search rules)
