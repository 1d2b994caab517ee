use lib.ListN.{length}
use Rattle.labels.proofs.CountedLaws as laws
use Rattle.labels.proofs.from_nodes.Given as goal

abbrev pub invariant-loop-pair : goal.invariant-loop-pair
invariant-loop-pair l = laws.LabelsTo l.fleet l.numbers l.initial.counts l.counts l.last (length l.yielded)
