use native.Mathlib.Omega.{arith}
use Rattle.scan.proofs.ScanLaws as l
use Rattle.scan.proofs.first_likely.Goals as goal

pub loop-x-init : goal.loop-x-init
loop-x-init c = l.unlikely_start _ _ _ _ c.requires.0

pub overflow_cast-counts : goal.overflow_cast-counts
overflow_cast-counts c = omega (arith, c.type_inv.counts c.loop-x.x)

pub returns-then-counts-x : goal.returns-then-counts-x
returns-then-counts-x c = l.likely_found c.loop-x.invariant (omega (arith, c.if-counts-x.true))

pub loop-x-preserved : goal.loop-x-preserved
loop-x-preserved c = l.unlikely_pair c.loop-x.invariant c.loop-x-test.true c.if-counts-x.false

pub returns : goal.returns
returns c = l.likely_none c.loop-x.invariant c.loop-x-test.false
