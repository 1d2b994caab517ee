use native.Mathlib.Omega.{arith}
use Rattle.fleet.proofs.TellsLaws.{told_yes}
use Rattle.branch.proofs.BranchChildren as b
use Rattle.branch.proofs.leaves_only.Goals as goal

pub returns-then-inner : goal.returns-then-inner
returns-then-inner c = b.leaves_no c.requires.0 c.loop-child.invariant (omega (arith, c.loop-child-test.true)) (told_yes c.inner.result c.inner.ensures c.if-inner.true)

pub returns : goal.returns
returns c = b.leaves_yes c.requires.0 c.loop-child.invariant (omega (arith, c.loop-child-test.false))
