use Rattle.additions.proofs.OwnLaws as laws
use Rattle.additions.proofs.count_own.Given as goal

abbrev pub invariant-loop-i : goal.invariant-loop-i
invariant-loop-i l = laws.OwnTo l.pattern l.initial.own l.own l.i
