use Rattle.occurrence.proofs.OccursLaws as laws
use Rattle.occurrence.proofs.occurs.Given as goal

abbrev pub invariant-loop-node : goal.invariant-loop-node
invariant-loop-node l = laws.NoneBelow l.pattern l.tree l.node
