use Rattle.places.proofs.PlaceLaws as l
use Rattle.places.proofs.put_children.Goals as goal
use Rattle.places.proofs.put_children.Goals.{then-fleet-child, else-fleet-child}

pub loop-child-init : goal.loop-child-init
loop-child-init c = l.put_start c.requires

pub bounds-list-end : goal.bounds-list-end
bounds-list-end c = l.child_room c.loop-child.invariant c.loop-child-test.true c.if-fleet-child.true

pub loop-child-preserved : goal.loop-child-preserved
loop-child-preserved c = elim c.if-fleet-child.branch [
  | then-fleet-child w ↦ rw (w.list-is, w.end-is) (l.child_put c.loop-child.invariant c.loop-child-test.true w.if-fleet-child.true)
  | else-fleet-child w ↦ rw (w.list-is, w.end-is) (l.child_passed c.loop-child.invariant c.loop-child-test.true w.if-fleet-child.false)
]

pub returns : goal.returns
returns c = l.put_end c.loop-child.invariant c.loop-child-test.false
