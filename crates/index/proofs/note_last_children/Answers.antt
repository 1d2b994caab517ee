use native.Mathlib.Omega.{arith}
use Rattle.index.proofs.IndexLaws as l
use Rattle.index.proofs.note_last_children.Goals as goal
use Rattle.index.proofs.note_last_children.Goals.{then-pair-ge-UNIT, else-pair-ge-UNIT}

pub overflow_cast-sizes : goal.overflow_cast-sizes
overflow_cast-sizes c = omega (arith, l.last_near c.loop-node.invariant c.loop-node-test.true c.if-pair-ge-UNIT.true)

pub loop-node-preserved : goal.loop-node-preserved
loop-node-preserved c = elim c.if-pair-ge-UNIT.branch [
  | then-pair-ge-UNIT k ↦ rw k.sizes-is (l.last_child c.loop-node.invariant c.loop-node-test.true k.if-pair-ge-UNIT.true)
  | else-pair-ge-UNIT k ↦ rw k.sizes-is (l.last_root c.loop-node.invariant c.loop-node-test.true k.if-pair-ge-UNIT.false)
]
