use native.Mathlib.Omega.{arith}
use Rattle.counts.proofs.CountLaws.{gathered_after}
use Rattle.labels.proofs.SetLaws as l
use Rattle.labels.proofs.from_sets.Goals as goal
use Rattle.labels.proofs.from_sets.Goals.{then-set-ne0, else-set-ne0}

pub loop-label-init : goal.loop-label-init
loop-label-init c = l.sets_start c.requires.0 (c.requires.2 c.requires.1) (omega (arith, c.requires.3, c.clear.ensures.0)) c.clear.ensures.1

pub bounds-holders-label : goal.bounds-holders-label
bounds-holders-label c = omega (arith, l.set_there c.loop-label.invariant (omega (arith, c.loop-label-test.true)))

pub loop-label-preserved : goal.loop-label-preserved
loop-label-preserved c = elim c.if-set-ne0.branch [
  | then-set-ne0 w ↦ rw w.counts-is (l.sets_next c.loop-label.invariant (omega (arith, c.loop-label-test.true)) w.size.ensures)
  | else-set-ne0 w ↦ rw w.counts-is (l.sets_none c.loop-label.invariant (omega (arith, c.loop-label-test.true)) w.if-set-ne0.false)
]

pub returns : goal.returns
returns c = gathered_after c.clear.ensures.0 (l.sets_end c.loop-label.invariant (omega (arith, c.loop-label-test.false)))
