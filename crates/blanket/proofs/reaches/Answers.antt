use Rattle.blanket.proofs.ReachLaws as l
use Rattle.blanket.proofs.reaches.Goals as goal

pub first_reaches-requires : goal.first_reaches-requires
first_reaches-requires c = c.requires

pub returns-then-first_reaches : goal.returns-then-first_reaches
returns-then-first_reaches c = l.first_yes c.requires c.first_reaches.result c.first_reaches.ensures c.if-first_reaches.true

pub others_reach-requires : goal.others_reach-requires
others_reach-requires c = c.requires

pub returns : goal.returns
returns c = l.together c.requires c.first_reaches.result c.first_reaches.ensures c.if-first_reaches.false c.others_reach.result c.others_reach.ensures
