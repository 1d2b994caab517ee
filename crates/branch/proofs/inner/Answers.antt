use Prim.Native.Nat.{◌+◌, ◌/◌}
use lib.ListN.{get_or}
use Rattle.branch.proofs.BranchChildren as b
use Rattle.branch.proofs.inner.Goals as goal

pub returns-then-pattern-node : goal.returns-then-pattern-node
returns-then-pattern-node c = let a = c.args in b.deeper_next (a.pair / 1000) (get_or a.pattern.now (a.node + 1) 0 / 1000) c.if-pattern-node.true
