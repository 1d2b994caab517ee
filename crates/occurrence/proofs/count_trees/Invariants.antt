use Prim.Native.Nat.{◌-◌}
use lib.ListN.{length}
use Rattle.occurrence.proofs.CountLaws as s
use Rattle.occurrence.proofs.count_trees.Given as goal

abbrev pub invariant-loop-start : goal.invariant-loop-start
invariant-loop-start l = s.CountInv l.fleet l.pattern l.count l.start

abbrev pub decreases-loop-start : goal.decreases-loop-start
decreases-loop-start l = length l.fleet - l.start
