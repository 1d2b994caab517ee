use native.Mathlib.Omega.{arith}
use Rattle.register.proofs.TreeLaws as l
use Rattle.register.proofs.trees.add.Goals as goal

pub loop-pair-init : goal.loop-pair-init
loop-pair-init c = l.add_start c.requires

pub overflow_add-nodes : goal.overflow_add-nodes
overflow_add-nodes c = omega (arith, l.add_fits c.loop-pair.invariant c.loop-pair-test.true _ c.entry_of-entry.ensures)

pub loop-pair-preserved : goal.loop-pair-preserved
loop-pair-preserved c = l.add_on c.loop-pair.invariant c.loop-pair-test.true _ c.entry_of-entry.ensures _ c.with.ensures
