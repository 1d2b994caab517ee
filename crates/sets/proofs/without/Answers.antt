use native.Mathlib.Omega.{arith}
use Rattle.fleet.proofs.TellsLaws as tl
use Rattle.sets.proofs.SetLaws as l
use Rattle.sets.proofs.without.Goals as goal

pub overflow_sub-result : goal.overflow_sub-result
overflow_sub-result c = omega (arith, c.bit.ensures, l.bit_within c.args.vehicle c.args.set (tl.told_yes _ c.member.ensures c.if-member.true))

pub returns-then-member : goal.returns-then-member
returns-then-member c = rw c.bit.ensures (l.taken_off c.args.vehicle c.args.set (tl.told_yes _ c.member.ensures c.if-member.true))

pub returns-else-member : goal.returns-else-member
returns-else-member c = l.not_there c.args.vehicle c.args.set (tl.told_no _ c.member.ensures c.if-member.false)
