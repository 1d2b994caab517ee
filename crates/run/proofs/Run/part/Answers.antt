use native.Mathlib.Omega.{arith}
use Prim.Native.Nat.{◌-◌}
use borrow.Author.Rules.{rules}
use Rattle.run.proofs.PartLaws as l
use Rattle.run.proofs.Run.part.Goals as goal

pub loop-at-init : goal.loop-at-init
loop-at-init c = l.begins _ _ (search rules) c.requires

pub overflow_sub-at : goal.overflow_sub-at
overflow_sub-at c = omega (arith, c.loop-at.invariant.at_within)

pub step-step-requires : goal.step-step-requires
step-step-requires c = c.loop-at.invariant.is_run

pub returns-then-len-eq0 : goal.returns-then-len-eq0
returns-then-len-eq0 c = l.ended c.loop-at.invariant c.step-step.ensures.step_is c.if-len-eq0.true

pub slice_bounds-line-end : goal.slice_bounds-line-end
slice_bounds-line-end c = l.line_within c.loop-at.invariant c.step-step.ensures.step_is

pub slice_bounds-put_bytes-end : goal.slice_bounds-put_bytes-end
slice_bounds-put_bytes-end c = l.size c.loop-at.invariant c.step-step.ensures.step_is

pub put_bytes-at-requires : goal.put_bytes-at-requires
put_bytes-at-requires c = l.line_fits c.loop-at.invariant c.step-step.ensures.step_is (search rules) c.loop-at-test.true

pub loop-at-smaller : goal.loop-at-smaller
loop-at-smaller c = l.less_room c.loop-at.invariant c.step-step.ensures.step_is c.loop-at-test.true c.if-len-eq0.false c.put_bytes-at.ensures

pub loop-at-preserved : goal.loop-at-preserved
loop-at-preserved c = l.goes_on c.loop-at.invariant c.step-step.ensures.step_is c.loop-at-test.true c.put_bytes-at.ensures

pub returns : goal.returns
returns c = l.full c.loop-at.invariant c.loop-at-test.false
