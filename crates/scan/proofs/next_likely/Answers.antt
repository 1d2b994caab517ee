use native.Mathlib.Omega.{arith}
use Rattle.scan.proofs.ScanLaws as l
use Rattle.scan.proofs.next_likely.Goals as goal

pub loop-x-init : goal.loop-x-init
loop-x-init c = l.unlikely_start _ _ _ _ c.requires.0

pub overflow_sub-end : goal.overflow_sub-end
overflow_sub-end c = c.loop-x.invariant.to_end

pub most_of_group-requires : goal.most_of_group-requires
most_of_group-requires c = omega (arith, c.loop-x.invariant.to_end, c.loop-x-test.true, c.requires.1)

pub first_likely-requires : goal.first_likely-requires
first_likely-requires c = (c.loop-x.invariant.to_end, c.requires.1)

pub returns-then-most_of_group-threshold : goal.returns-then-most_of_group-threshold
returns-then-most_of_group-threshold c = l.likely_later c.loop-x.invariant c.first_likely.ensures

pub overflow_add-x : goal.overflow_add-x
overflow_add-x c = omega (arith, c.loop-x.invariant.to_end, c.loop-x-test.true)

pub loop-x-smaller : goal.loop-x-smaller
loop-x-smaller c = omega (arith, c.loop-x.invariant.to_end, c.loop-x-test.true)

pub loop-x-preserved : goal.loop-x-preserved
loop-x-preserved c = l.unlikely_group c.loop-x.invariant c.loop-x-test.true c.most_of_group.ensures c.if-most_of_group-threshold.false

pub first_likely-requires-2 : goal.first_likely-requires-2
first_likely-requires-2 c = (c.loop-x.invariant.to_end, c.requires.1)

pub returns : goal.returns
returns c = l.likely_later c.loop-x.invariant c.first_likely-2.ensures
