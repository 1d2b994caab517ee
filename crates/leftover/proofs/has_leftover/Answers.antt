use Rattle.leftover.proofs.has_leftover.Goals as goal

pub returns-then-own-eq0 : goal.returns-then-own-eq0
returns-then-own-eq0 c = rw c.if-own-eq0.true c.requires.1
