use Rattle.matching.proofs.FitsLaws as s
use Rattle.matching.proofs.holder.Given as goal

abbrev pub invariant-loop-node : goal.invariant-loop-node
invariant-loop-node l = s.NotBelow l.places l.place l.node
