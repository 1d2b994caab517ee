use native.Mathlib.Omega.{arith}
use Rattle.index.proofs.IndexLaws as l
use Rattle.index.proofs.note_parents.Goals as goal

pub bounds-above-depth : goal.bounds-above-depth
bounds-above-depth c = omega (arith, l.depth_small c.loop-node.invariant c.loop-node-test.true)

pub bounds-above-depth-in-loop-node : goal.bounds-above-depth-in-loop-node
bounds-above-depth-in-loop-node c = omega (arith, l.depth_small c.loop-node.invariant c.loop-node-test.true)

pub loop-node-preserved : goal.loop-node-preserved
loop-node-preserved c = l.parents_next c.loop-node.invariant c.loop-node-test.true
