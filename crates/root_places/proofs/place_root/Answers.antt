use native.Mathlib.Omega.{arith}
use Rattle.root_places.proofs.RootLaws as l
use Rattle.root_places.proofs.place_root.Goals as goal
use Rattle.root_places.proofs.place_root.Goals.{then-told, else-told+then-told-gt0, else-told+else-told-gt0}

pub loop-node-init : goal.loop-node-init
loop-node-init c = l.root_start c.requires.0 c.requires.1 c.requires.2

pub loop-node-preserved : goal.loop-node-preserved
loop-node-preserved c = elim c.if-told.branch [
  | then-told w ↦ rw (w.places-is, w.len-is) (l.group_put c.loop-node.invariant c.loop-node-test.true w.put_labelled-len.ensures (omega arith))
  | else-told+then-told-gt0 w ↦ rw (w.places-is, w.len-is) (l.one_put c.loop-node.invariant c.loop-node-test.true c.labelled_of_group-told.ensures w.if-told.false (omega (arith, w.if-told-gt0.true)))
  | else-told+else-told-gt0 w ↦ rw (w.places-is, w.len-is) (l.none_put c.loop-node.invariant c.loop-node-test.true c.labelled_of_group-told.ensures w.if-told.false (omega (arith, w.if-told-gt0.false)))
]

pub returns : goal.returns
returns c = l.labelled_all c.put_labelled.ensures
