use native.Mathlib.Omega.{arith}
use Rattle.moving.proofs.MoveLaws as l
use Rattle.moving.proofs.move_up.Goals as goal

pub loop-i-preserved : goal.loop-i-preserved
loop-i-preserved c = l.up_next _ _ _ _ _ _ c.requires.0 c.loop-i.invariant c.requires.1 (omega (arith, c.loop-i-test.true))
