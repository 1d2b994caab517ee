use mathlib.Core.Path.{sym, ◌∙◌}
use native.Mathlib.Omega.{arith}
use borrow.Author.Tests.{ltb-true, leb-true}
use Rattle.index.proofs.IndexLaws as l
use Rattle.index.proofs.looks_flat.Goals as goal
use Rattle.index.proofs.looks_flat.Goals.{then-size-ge-MANY, else-size-ge-MANY}

pub overflow_add-deeper : goal.overflow_add-deeper
overflow_add-deeper c = omega (arith, (l.fleet_pair c.requires.0 _ c.requires.2).depth_to_15)

pub returns-then-fleet-node : goal.returns-then-fleet-node
returns-then-fleet-node c = elim c.if-size-ge-MANY.branch [
  | then-size-ge-MANY k ↦ l.flat_last c.args.fleet.now c.args.sizes.now c.args.node (omega (arith, k.if-size-ge-MANY.true)) (ltb-true _ _ (sym k.value-is ∙ c.if-fleet-node.true))
  | else-size-ge-MANY k ↦ absurd (omega (arith, leb-true _ _ (sym k.value-is ∙ c.if-fleet-node.true), k.if-size-ge-MANY.false))
]
