use Rattle.root_places.proofs.RootLaws as laws
use Rattle.root_places.proofs.labelled_of_group.Given as goal

abbrev pub invariant-loop-i : goal.invariant-loop-i
invariant-loop-i l = laws.ToldTo l.fleet l.label l.from l.i l.sum
