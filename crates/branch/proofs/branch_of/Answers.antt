use Rattle.branch.proofs.BranchLaws as b
use Rattle.branch.proofs.branch_of.Goals as goal

pub loop-i-preserved : goal.loop-i-preserved
loop-i-preserved c = b.branch_next c.requires c.loop-i.invariant c.loop-i-test.true
