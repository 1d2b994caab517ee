use Rattle.places.proofs.PlaceLaws as l
use Rattle.places.proofs.scan_children.Goals as goal
use Rattle.places.proofs.scan_children.Goals.{then-fleet-below, else-fleet-below}

pub loop-below-init : goal.loop-below-init
loop-below-init c = l.put_start c.requires

pub bounds-list-end : goal.bounds-list-end
bounds-list-end c = l.child_room c.loop-below.invariant c.loop-below-test.true c.if-fleet-below.true

pub loop-below-preserved : goal.loop-below-preserved
loop-below-preserved c = elim c.if-fleet-below.branch [
  | then-fleet-below w ↦ rw (w.list-is, w.end-is) (l.scan_put c.loop-below.invariant c.loop-below-test.true w.if-fleet-below.true)
  | else-fleet-below w ↦ rw (w.list-is, w.end-is) (l.scan_passed c.loop-below.invariant c.loop-below-test.true w.if-fleet-below.false)
]

pub returns : goal.returns
returns c = l.put_end c.loop-below.invariant c.loop-below-test.false
