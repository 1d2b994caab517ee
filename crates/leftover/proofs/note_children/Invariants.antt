use Prim.Native.Nat.{◌-◌}
use Rattle.leftover.proofs.LeftoverLaws as laws
use Rattle.leftover.proofs.note_children.Given as goal

abbrev pub invariant-loop-c : goal.invariant-loop-c
invariant-loop-c l = laws.LeftoversTo l.fleet l.sizes l.own l.d l.above l.vehicle l.initial.counts l.initial.last l.counts l.last l.largest l.end l.c

abbrev pub decreases-loop-c : goal.decreases-loop-c
decreases-loop-c l = l.end - l.c
