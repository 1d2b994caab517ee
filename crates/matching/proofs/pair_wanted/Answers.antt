use Rattle.matching.proofs.NeedLaws as n
use Rattle.matching.proofs.pair_wanted.Goals as goal

pub returns : goal.returns
returns c = n.wanted_is _ _
