use Prim.Native.Nat.{◌-◌}
use lib.ListN.{length}
use Rattle.turning.proofs.TurnLaws as laws
use Rattle.turning.proofs.turn.Given as goal

abbrev pub invariant-loop-at : goal.invariant-loop-at
invariant-loop-at l = laws.TurnedSoFar l.initial.pattern l.leaf l.pattern l.at l.unmoved

abbrev pub decreases-loop-at : goal.decreases-loop-at
decreases-loop-at l = length l.pattern - l.at
