use Prim.Native.Nat.{◌+◌}
use Rattle.branch.proofs.BranchLimit as b
use Rattle.branch.proofs.limit.Given as goal

abbrev pub invariant-loop-node : goal.invariant-loop-node
invariant-loop-node l = b.LimitBefore l.pattern (1 + l.node-index) l.most
