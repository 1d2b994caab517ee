use Rattle.root_places.proofs.RootLaws as l
use Rattle.root_places.proofs.put_labelled.Goals as goal
use Rattle.root_places.proofs.put_labelled.Goals.{then-fleet-node, else-fleet-node}

pub loop-node-preserved : goal.loop-node-preserved
loop-node-preserved c = elim c.if-fleet-node.branch [
  | then-fleet-node w ↦ rw (w.places-is, w.end-is) (l.node_put c.loop-node.invariant c.loop-node-test.true w.if-fleet-node.true)
  | else-fleet-node w ↦ rw (w.places-is, w.end-is) (l.node_passed c.loop-node.invariant c.loop-node-test.true w.if-fleet-node.false)
]
