use Prim.Native.Nat.{◌-◌}
use Rattle.places.proofs.PlaceLaws as laws
use Rattle.places.proofs.put_children.Given as goal

abbrev pub invariant-loop-child : goal.invariant-loop-child
invariant-loop-child l = laws.ChildrenPutTo l.fleet l.sizes l.node l.pair l.initial.list l.len l.stop l.list l.end l.child

abbrev pub decreases-loop-child : goal.decreases-loop-child
decreases-loop-child l = l.stop - l.child
