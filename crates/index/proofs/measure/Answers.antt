use native.Mathlib.Omega.{arith}
use Rattle.index.proofs.IndexLaws as l
use Rattle.index.proofs.measure.Goals as goal

pub overflow_add-sizes-in-loop-node : goal.overflow_add-sizes-in-loop-node
overflow_add-sizes-in-loop-node c = omega (arith, l.measure_byte (l.measure_known c.loop-node.invariant (omega arith)))

pub loop-node-preserved : goal.loop-node-preserved
loop-node-preserved c = l.measure_next (l.measure_known c.loop-node.invariant (omega arith))

pub returns : goal.returns
returns c = l.measure_end c.loop-node.invariant (omega arith)
