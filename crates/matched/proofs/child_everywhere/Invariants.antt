use Prim.Native.Nat.{◌-◌}
use Rattle.matched.proofs.AskLaws as laws
use Rattle.matched.proofs.child_everywhere.Given as goal

abbrev pub invariant-loop-c : goal.invariant-loop-c
invariant-loop-c l = laws.ChildrenFrom l.pattern l.b l.fleet l.sizes l.nodes l.d l.c

abbrev pub decreases-loop-c : goal.decreases-loop-c
decreases-loop-c l = l.end - l.c
