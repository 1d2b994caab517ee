use Prim.Native.Nat.{◌+◌}
use Rattle.index.proofs.IndexLaws as laws
use Rattle.index.proofs.count_children.Given as goal

abbrev pub invariant-loop-below : goal.invariant-loop-below
invariant-loop-below l = laws.ChildrenTo l.fleet l.sizes l.node l.pair (l.node + 1 + l.below-index) l.count
