use Prim.Native.Nat.{◌-◌}
use lib.ListN.{length}
use Rattle.register.proofs.AllLaws as laws
use Rattle.register.proofs.trees.add_all.Given as goal

abbrev pub invariant-loop-at : goal.invariant-loop-at
invariant-loop-at l = laws.AllTo l.fleet l.initial.nodes l.initial.holders l.at l.vehicle l.nodes l.holders

abbrev pub decreases-loop-at : goal.decreases-loop-at
decreases-loop-at l = length l.fleet - l.at
