use Rattle.branch.proofs.BranchChildren as b
use Rattle.branch.proofs.leaves_only.Given as goal

abbrev pub invariant-loop-child : goal.invariant-loop-child
invariant-loop-child l = b.LeavesTo l.pattern l.node l.pair l.child
