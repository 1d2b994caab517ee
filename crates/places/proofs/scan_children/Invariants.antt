use Rattle.places.proofs.PlaceLaws as laws
use Rattle.places.proofs.scan_children.Given as goal

abbrev pub invariant-loop-below : goal.invariant-loop-below
invariant-loop-below l = laws.ChildrenPutTo l.fleet l.sizes l.node l.pair l.initial.list l.len l.stop l.list l.end l.below
