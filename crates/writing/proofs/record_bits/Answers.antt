use Rattle.writing.proofs.WriteSteps as wl
use Rattle.writing.proofs.record_bits.Goals as goal
use Rattle.writing.proofs.record_bits.Goals.{then-x-previous, else-x-previous}

pub returns-in_default : goal.returns-in_default
returns-in_default c = rw c.in_default.is (wl.bits_first c.args.x)

pub returns-then-x-previous-2 : goal.returns-then-x-previous-2
returns-then-x-previous-2 c = rw c.in-Some.is (wl.bits_with_label _ _ _ (elim c.if-x-previous.branch [ then-x-previous w ↦ wl.depth_set _ _ _ w.if-x-previous.true w.bits-is | else-x-previous w ↦ wl.depth_absent _ _ _ w.if-x-previous.false w.bits-is ]) c.if-x-previous-2.true)

pub returns-else-x-previous-2 : goal.returns-else-x-previous-2
returns-else-x-previous-2 c = rw c.in-Some.is (wl.bits_without_label _ _ _ (elim c.if-x-previous.branch [ then-x-previous w ↦ wl.depth_set _ _ _ w.if-x-previous.true w.bits-is | else-x-previous w ↦ wl.depth_absent _ _ _ w.if-x-previous.false w.bits-is ]) c.if-x-previous-2.false)
