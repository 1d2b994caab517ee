use Rattle.root_places.proofs.RootLaws as laws
use Rattle.root_places.proofs.put_labelled.Given as goal

abbrev pub invariant-loop-node : goal.invariant-loop-node
invariant-loop-node l = laws.PutTo l.label l.fleet l.stop l.initial.places l.places l.end l.node
