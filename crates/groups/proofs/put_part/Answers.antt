use Rattle.groups.proofs.GroupSteps as l
use Rattle.groups.proofs.put_part.Goals as goal

pub returns : goal.returns
returns c = l.part_put c.requires c.copy.ensures
