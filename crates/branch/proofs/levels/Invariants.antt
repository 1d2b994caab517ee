use Rattle.branch.proofs.BranchLevels as b
use Rattle.branch.proofs.levels.Given as goal

abbrev pub invariant-loop-depth : goal.invariant-loop-depth
invariant-loop-depth l = b.LevelsTo l.pattern l.depth l.heaviest l.equal
