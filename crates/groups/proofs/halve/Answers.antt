use mathlib.Core.Path.{sym, ◌∙◌}
use Rattle.groups.proofs.GroupSteps as l
use Rattle.groups.proofs.halve.Goals as goal

pub loop-end-preserved-then-parents-places : goal.loop-end-preserved-then-parents-places
loop-end-preserved-then-parents-places c = (c.loop-end.invariant.0, l.upper_half c.loop-end.invariant.1 c.loop-end-test.true (c.if-parents-places.true ∙ c.loop-end.invariant.0))

pub loop-end-preserved : goal.loop-end-preserved
loop-end-preserved c = (c.loop-end.invariant.0, l.lower_half c.loop-end.invariant.1 c.loop-end-test.true (λ e. c.if-parents-places.false (e ∙ sym c.loop-end.invariant.0)))
