use Rattle.index.proofs.IndexLaws as l
use Rattle.index.proofs.number_vehicles.Goals as goal
use Rattle.index.proofs.number_vehicles.Goals.{then-pair-lt-UNIT, else-pair-lt-UNIT}

pub loop-node-init : goal.loop-node-init
loop-node-init c = l.numbers_start c.requires.0 c.requires.1

pub loop-node-preserved : goal.loop-node-preserved
loop-node-preserved c = elim c.if-pair-lt-UNIT.branch [
  | then-pair-lt-UNIT k ↦ rw k.number-is (l.numbers_root c.loop-node.invariant c.loop-node-test.true k.if-pair-lt-UNIT.true)
  | else-pair-lt-UNIT k ↦ rw k.number-is (l.numbers_child c.loop-node.invariant c.loop-node-test.true k.if-pair-lt-UNIT.false)
]

pub returns : goal.returns
returns c = l.numbers_all c.loop-node.invariant c.loop-node-test.false
