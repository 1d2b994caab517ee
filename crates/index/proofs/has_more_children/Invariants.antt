use Prim.Native.Nat.{◌-◌, ◌≤◌}
use Rattle.index.proofs.IndexLaws as laws
use Rattle.index.proofs.has_more_children.Given as goal

abbrev pub invariant-loop-next : goal.invariant-loop-next
invariant-loop-next l = laws.ChildrenTo l.fleet l.sizes l.node l.pair l.next l.count × (l.count ≤ l.than)

abbrev pub decreases-loop-next : goal.decreases-loop-next
decreases-loop-next l = l.end - l.next
