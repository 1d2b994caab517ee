use native.Mathlib.Omega.{arith}
use Rattle.heaviest.proofs.PlaceLaws as s
use Rattle.heaviest.proofs.last_root.Goals as goal

pub returns-then-occurs_at : goal.returns-then-occurs_at
returns-then-occurs_at c = s.last_root_here _ _ _ c.loop-node.invariant (omega arith) (rw c.if-occurs_at.true at c.occurs_at.ensures)

pub loop-node-preserved : goal.loop-node-preserved
loop-node-preserved c = s.none_from_less _ _ _ c.loop-node.invariant (omega arith) (rw c.if-occurs_at.false at c.occurs_at.ensures)

pub returns : goal.returns
returns c = s.last_root_none _ _ _ c.loop-node.invariant (omega arith)
