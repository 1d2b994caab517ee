use Rattle.matched.proofs.AskLaws as laws
use Rattle.matched.proofs.left_everywhere.Given as goal

abbrev pub invariant-loop-node : goal.invariant-loop-node
invariant-loop-node l = laws.LeftTo l.fleet l.sizes l.nodes l.label l.own l.node-index
