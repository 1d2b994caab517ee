use Rattle.branch.proofs.BranchLaws as b
use Rattle.branch.proofs.branch_of.Given as goal

abbrev pub invariant-loop-i : goal.invariant-loop-i
invariant-loop-i l = b.BranchTo l.pattern l.i l.branch
