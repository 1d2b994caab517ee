use borrow.Author.Tests.{not-true}
use Rattle.seats.proofs.PlaceBeside as l
use Rattle.std.proofs.lemmas.Bool.{not_from_false}
use Rattle.seats.proofs.keep_in_tree.Goals as goal
use Rattle.seats.proofs.keep_in_tree.Goals.{then-other-eq-NOBODY, else-other-eq-NOBODY}

pub leave-requires : goal.leave-requires
leave-requires c = l.leave_of c.requires.0 c.seat.ensures

pub returns-then-not-leave : goal.returns-then-not-leave
returns-then-not-leave c = l.keep_all _ c.requires.1 (c.leave.ensures _ c.seat.ensures) (not-true _ (not_from_false _ c.if-not-leave.true))

pub loop-i-init : goal.loop-i-init
loop-i-init c = l.keep_start c.requires.0 c.requires.1 (c.leave.ensures _ c.seat.ensures)

pub loop-i-preserved : goal.loop-i-preserved
loop-i-preserved c = elim c.if-other-eq-NOBODY.branch [
  | then-other-eq-NOBODY k ↦ rw (k.list-is, k.kept-is) (l.keep_this c.loop-i.invariant c.loop-i-test.true c.holder-other.ensures k.if-other-eq-NOBODY.true)
  | else-other-eq-NOBODY k ↦ rw (k.list-is, k.kept-is) (l.keep_not c.loop-i.invariant c.loop-i-test.true c.holder-other.ensures k.if-other-eq-NOBODY.false)
]
