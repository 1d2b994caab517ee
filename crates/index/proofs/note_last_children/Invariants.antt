use Rattle.index.proofs.IndexLaws as laws
use Rattle.index.proofs.note_last_children.Given as goal

abbrev pub invariant-loop-node : goal.invariant-loop-node
invariant-loop-node l = laws.LastChildrenTo l.fleet l.parents l.sizes l.node
