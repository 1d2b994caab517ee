use Rattle.sets.proofs.SetLaws as l
use Rattle.sets.proofs.bit.Goals as goal

pub returns : goal.returns
returns c = l.shifted_bit _ c.requires
