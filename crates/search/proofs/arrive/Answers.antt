use Rattle.search.proofs.NextLaws as l
use Rattle.search.proofs.arrive.Goals as goal

pub reach-requires : goal.reach-requires
reach-requires c = c.requires c.if-len-bound.true

pub returns-then-len-bound : goal.returns-then-len-bound
returns-then-len-bound c = l.arrived_there c.if-len-bound.true c.reach.ensures

pub returns-else-len-bound : goal.returns-else-len-bound
returns-else-len-bound c = l.arrived_already c.if-len-bound.false
