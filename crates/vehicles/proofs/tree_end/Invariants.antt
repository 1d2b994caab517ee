use Rattle.vehicles.proofs.StretchLaws as s
use Rattle.vehicles.proofs.tree_end.Given as goal

abbrev pub invariant-loop-end : goal.invariant-loop-end
invariant-loop-end l = s.DeepTo l.fleet l.at l.end
