use Rattle.remarks.proofs.WalkLaws as law
use Rattle.remarks.proofs.take_out.Given as goal

abbrev pub invariant-loop-i : goal.invariant-loop-i
invariant-loop-i l = law.MovedTo l.initial.pairs l.pairs l.i l.len
