use Rattle.index.proofs.IndexLaws as laws
use Rattle.index.proofs.number_vehicles.Given as goal

abbrev pub invariant-loop-node : goal.invariant-loop-node
invariant-loop-node l = laws.NumbersTo l.fleet l.numbers l.number l.node
