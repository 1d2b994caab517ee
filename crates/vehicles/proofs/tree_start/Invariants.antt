use Prim.Native.Nat.{◌-◌}
use lib.ListN.{length}
use Rattle.vehicles.proofs.StartLaws as laws
use Rattle.vehicles.proofs.tree_start.Given as goal

abbrev pub invariant-loop-at : goal.invariant-loop-at
invariant-loop-at l = laws.Sought l.fleet l.number l.vehicle l.at

abbrev pub decreases-loop-at : goal.decreases-loop-at
decreases-loop-at l = length l.fleet - l.at
