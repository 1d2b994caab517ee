use native.Mathlib.Omega.{arith}
use mathlib.Core.Path.{◌≡◌}
use Prim.Native.Nat.{suc, ◌+◌, ◌-◌}
use Rattle.index.proofs.IndexLaws as l
use Rattle.index.proofs.climb.Goals as goal

pub loop-step-init : goal.loop-step-init
loop-step-init c = l.climb_start c.requires.0 c.requires.1 c.requires.2 (omega arith)

pub loop-step-preserved : goal.loop-step-preserved
loop-step-preserved c =
    let e : c.args.steps - c.loop-step._step ≡ suc (c.args.steps - (c.loop-step._step + 1)) = omega arith in
    l.climb_next (rw e at c.loop-step.invariant)

pub returns : goal.returns
returns c = l.climb_end c.loop-step.invariant (omega (arith, c.loop-step-test.false))
