use native.Mathlib.Omega.{arith}
use Rattle.register.proofs.TreeLaws as l
use Rattle.register.proofs.trees.take.Goals as goal

pub loop-pair-init : goal.loop-pair-init
loop-pair-init c = l.take_start c.requires

pub overflow_sub-nodes : goal.overflow_sub-nodes
overflow_sub-nodes c = omega (arith, l.take_fits c.loop-pair.invariant c.loop-pair-test.true _ c.entry_of-entry.ensures)

pub loop-pair-preserved : goal.loop-pair-preserved
loop-pair-preserved c = l.take_on c.loop-pair.invariant c.loop-pair-test.true _ c.entry_of-entry.ensures _ c.without.ensures
