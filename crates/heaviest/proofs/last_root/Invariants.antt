use Rattle.heaviest.proofs.PlaceLaws as s
use Rattle.heaviest.proofs.last_root.Given as goal

abbrev pub invariant-loop-node : goal.invariant-loop-node
invariant-loop-node l = s.NoneFrom l.pattern l.tree l.node
