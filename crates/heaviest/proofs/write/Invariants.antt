use Rattle.heaviest.proofs.PlaceLaws as s
use Rattle.heaviest.proofs.write.Given as goal

abbrev pub invariant-loop-node : goal.invariant-loop-node
invariant-loop-node l = s.WriteInv l.pattern l.tree l.initial.output l.output l.node
