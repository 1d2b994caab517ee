use Rattle.remarks.proofs.WalkLaws as law
use Rattle.remarks.proofs.any.Given as goal

abbrev pub invariant-loop-pair : goal.invariant-loop-pair
invariant-loop-pair l = law.Met l.pairs l.pair-index l.found
