use native.Mathlib.Omega.{arith}
use Rattle.heaviest.proofs.PlaceLaws as s
use Rattle.heaviest.proofs.write_places.Goals as goal
use Rattle.heaviest.proofs.write_places.Goals.{then-place-gt0, else-place-gt0}

pub loop-node-preserved : goal.loop-node-preserved
loop-node-preserved c = elim c.if-place-gt0.branch [
  | then-place-gt0 w ↦ rw w.output-is (s.written_here _ _ _ _ _ c.loop-node.invariant (omega arith) (omega (arith, w.if-place-gt0.true)))
  | else-place-gt0 w ↦ rw w.output-is (s.written_skip _ _ _ _ _ c.loop-node.invariant (omega arith) w.if-place-gt0.false)
]

pub returns : goal.returns
returns c = s.written_end _ _ _ _ _ c.loop-node.invariant c.loop-node-test.false
