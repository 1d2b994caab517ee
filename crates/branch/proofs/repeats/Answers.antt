use Rattle.branch.proofs.BranchLimit as b
use Rattle.branch.proofs.repeats.Goals as goal

pub returns : goal.returns
returns c = b.repeats_told c.requires c.starts_with.ensures.value
