use native.Mathlib.Omega.{arith}
use Rattle.index.proofs.IndexLaws as l
use Rattle.index.proofs.has_more_children.Goals as goal
use Rattle.index.proofs.has_more_children.Goals.{then-fleet-next+else-count-than, else-fleet-next}

pub loop-next-init : goal.loop-next-init
loop-next-init c = (l.children_start c.requires, omega arith)

pub returns-then-count-than : goal.returns-then-count-than
returns-then-count-than c = omega (arith, l.children_so_far (l.children_hit c.loop-next.invariant.0 c.loop-next-test.true c.if-fleet-next.true), c.if-count-than.true)

pub loop-next-preserved : goal.loop-next-preserved
loop-next-preserved c = elim c.if-fleet-next.branch [
  | then-fleet-next+else-count-than k ↦ rw k.count-is (l.children_hit c.loop-next.invariant.0 c.loop-next-test.true k.if-fleet-next.true, k.if-count-than.false)
  | else-fleet-next k ↦ rw k.count-is (l.children_miss c.loop-next.invariant.0 c.loop-next-test.true k.if-fleet-next.false, c.loop-next.invariant.1)
]

pub returns : goal.returns
returns c h = omega (arith, l.children_end c.loop-next.invariant.0 c.loop-next-test.false, c.loop-next.invariant.1, h)
