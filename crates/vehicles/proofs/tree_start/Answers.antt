use native.Mathlib.Omega.{arith}
use Rattle.vehicles.proofs.StartLaws as l
use Rattle.vehicles.proofs.tree_start.Goals as goal

pub loop-at-init : goal.loop-at-init
loop-at-init c = l.sought_first _ _

pub returns-then-vehicle-number : goal.returns-then-vehicle-number
returns-then-vehicle-number c = l.starts_here _ _ _ _ c.loop-at.invariant c.loop-at-test.true (omega (arith, c.if-vehicle-number.true))

pub overflow_add-vehicle : goal.overflow_add-vehicle
overflow_add-vehicle c = omega (arith, c.loop-at.invariant.counted, c.loop-at-test.true)

pub loop-at-preserved : goal.loop-at-preserved
loop-at-preserved c = l.sought_next _ _ _ _ c.loop-at.invariant _ (c.tree_end-at.ensures.of_tree c.loop-at-test.true) c.if-vehicle-number.false

pub returns : goal.returns
returns c = l.starts_nowhere _ _ _ _ c.loop-at.invariant c.loop-at-test.false
