use native.Mathlib.Omega.{arith}
use Prim.Native.Nat.{◌+◌}
use mathlib.Core.Path.{◌≡◌}
use Rattle.index.proofs.IndexLaws as l
use Rattle.index.proofs.count_children.Goals as goal
use Rattle.index.proofs.count_children.Goals.{then-below-pair, else-below-pair}

pub loop-below-init : goal.loop-below-init
loop-below-init c =
    let e : c.args.node + 1 + 0 ≡ c.args.node + 1 = omega arith in
    rw e (l.children_start c.requires)

pub loop-below-preserved : goal.loop-below-preserved
loop-below-preserved c = elim c.if-below-pair.branch [
  | then-below-pair k ↦ rw k.count-is (l.scan_hit c.loop-below.invariant c.loop-below-test.true k.if-below-pair.true)
  | else-below-pair k ↦ rw k.count-is (l.scan_miss c.loop-below.invariant c.loop-below-test.true k.if-below-pair.false)
]

pub returns : goal.returns
returns c = l.children_end c.loop-below.invariant (l.scan_over c.loop-below.invariant c.loop-below-test.false)
