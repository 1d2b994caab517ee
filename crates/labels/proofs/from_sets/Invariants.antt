use Rattle.labels.proofs.SetLaws as laws
use Rattle.labels.proofs.from_sets.Given as goal

abbrev pub invariant-loop-label : goal.invariant-loop-label
invariant-loop-label l = laws.SetsTo l.fleet l.holders l.initial.counts l.counts l.label
