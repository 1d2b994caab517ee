use native.Mathlib.Omega.{arith}
use Rattle.fleet.proofs.TellsLaws.{told_yes, told_no}
use Rattle.seats.proofs.PlaceBeside as l
use Rattle.seats.proofs.seat.Goals as goal
use Rattle.seats.proofs.seat.Goals.{then-inner, else-inner}

pub loop-child-init : goal.loop-child-init
loop-child-init c = l.seat_start c.requires.0 c.requires.1

pub augment-requires : goal.augment-requires
augment-requires c = (l.seat_input c.loop-child.invariant (omega (arith, c.loop-child-test.true)) (told_yes c.inner.result c.inner.ensures c.if-inner.true), c.loop-child.invariant.input.measured)

pub loop-child-preserved : goal.loop-child-preserved
loop-child-preserved c = elim c.if-inner.branch [
  | then-inner w ↦ rw w.seats-is (l.seat_more c.loop-child.invariant (omega (arith, c.loop-child-test.true)) (told_yes c.inner.result c.inner.ensures w.if-inner.true) w.augment.ensures)
  | else-inner w ↦ rw w.seats-is (l.seat_skip c.loop-child.invariant (omega (arith, c.loop-child-test.true)) (told_no c.inner.result c.inner.ensures w.if-inner.false))
]

pub returns : goal.returns
returns c = l.seat_end c.loop-child.invariant (omega (arith, c.loop-child-test.false))
