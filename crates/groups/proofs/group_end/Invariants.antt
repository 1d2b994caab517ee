use Prim.Native.Nat.{◌-◌}
use lib.ListN.{length}
use Rattle.groups.proofs.GroupSteps as laws
use Rattle.groups.proofs.group_end.Given as goal

abbrev pub invariant-loop-high : goal.invariant-loop-high
invariant-loop-high l = laws.DoubledTo l.parents l.places l.first l.parent l.low l.high

abbrev pub decreases-loop-high : goal.decreases-loop-high
decreases-loop-high l = length l.places - l.low
