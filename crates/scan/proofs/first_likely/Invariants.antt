use Rattle.scan.proofs.ScanLaws as laws
use Rattle.scan.proofs.first_likely.Given as goal

abbrev pub invariant-loop-x : goal.invariant-loop-x
invariant-loop-x l = laws.UnlikelyTo l.counts l.from l.end l.threshold l.x
