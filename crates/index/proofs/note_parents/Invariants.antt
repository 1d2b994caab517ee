use Rattle.index.proofs.IndexLaws as laws
use Rattle.index.proofs.note_parents.Given as goal

abbrev pub invariant-loop-node : goal.invariant-loop-node
invariant-loop-node l = laws.ParentsTo l.fleet l.parents l.above l.node
