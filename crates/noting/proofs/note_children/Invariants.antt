use Prim.Native.Nat.{◌-◌, ◌<◌}
use Rattle.noting.proofs.NoteLaws as n
use Rattle.noting.proofs.note_children.Given as goal

abbrev pub invariant-loop-c : goal.invariant-loop-c
invariant-loop-c l = n.ChildrenTo (λ x. x < l.limit) l.fleet l.sizes l.d l.above l.vehicle l.initial.counts l.initial.last l.counts l.last l.end l.c

abbrev pub decreases-loop-c : goal.decreases-loop-c
decreases-loop-c l = l.end - l.c
