use mathlib.Core.Path.{sym, ◌∙◌}
use native.Mathlib.Omega.{arith}
use borrow.Author.Tests.{eqb-true, ltb-true, leb-true, leb-false}
use Rattle.blanket.specs.Blanket.{EqualLeaves}
use Rattle.fleet.proofs.TellsLaws.{tells_if}
use Rattle.blanket.proofs.equal_leaves.Goals as goal
use Rattle.blanket.proofs.equal_leaves.Goals.{then-leaf-len, else-leaf-len}

pub returns-then-nodes-leaf : goal.returns-then-nodes-leaf
returns-then-nodes-leaf c = elim c.if-leaf-len.branch [
  | then-leaf-len w ↦ tells_if _ {R = EqualLeaves c.args.nodes c.args.len c.args.leaf}
      (λ e. record { not_last = w.if-leaf-len.true; equal = eqb-true _ _ (sym w.value-is ∙ c.if-nodes-leaf.true); no_deeper = leb-true _ _ e })
      (λ e r. let h = leb-false _ _ e in absurd (omega (arith, h, r.no_deeper)))
  | else-leaf-len w ↦ let h = ltb-true _ _ (sym w.value-is ∙ c.if-nodes-leaf.true) in absurd (omega (arith, h, w.if-leaf-len.false))
]
