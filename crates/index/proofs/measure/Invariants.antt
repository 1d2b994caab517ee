use Rattle.index.proofs.IndexLaws as laws
use Rattle.index.proofs.measure.Given as goal

abbrev pub invariant-loop-node : goal.invariant-loop-node
invariant-loop-node l = laws.Measured l.fleet l.sizes l.node
