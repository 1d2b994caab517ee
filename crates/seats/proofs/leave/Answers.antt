use Rattle.seats.proofs.PlaceBeside as l
use Rattle.seats.proofs.leave.Goals as goal
use Rattle.seats.proofs.leave.Goals.{then-full-child-ne0+then-can_leave, then-full-child-ne0+else-can_leave, else-full-child-ne0}

pub loop-child-preserved : goal.loop-child-preserved
loop-child-preserved c = (
  c.loop-child.invariant.0,
  elim c.if-full-child-ne0.branch [
    | then-full-child-ne0+then-can_leave k ↦ rw (k.seats-is, k.stuck-is) (l.leave_yes c.loop-child.invariant.1 c.loop-child-test.true k.can_leave.ensures k.if-can_leave.true)
    | then-full-child-ne0+else-can_leave k ↦ rw (k.seats-is, k.stuck-is) (l.leave_no c.loop-child.invariant.1 c.loop-child-test.true k.can_leave.ensures k.if-can_leave.false)
    | else-full-child-ne0 k ↦ rw (k.seats-is, k.stuck-is) (l.leave_none c.loop-child.invariant.1 c.loop-child-test.true k.if-full-child-ne0.false)
  ],
)

pub returns : goal.returns
returns c label m = l.leave_end c.loop-child.invariant.1 c.loop-child-test.false label (rw c.loop-child.invariant.0 m)
