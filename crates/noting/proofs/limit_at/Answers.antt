use native.Mathlib.Omega.{arith}
use mathlib.Core.Path.{refl}
use Rattle.fleet.proofs.TellsLaws.{broken, kept}
use Rattle.noting.proofs.NoteLaws as n
use Rattle.std.proofs.lemmas.Bool.{not_from_false, not_from_true}
use Rattle.noting.proofs.limit_at.Goals as goal
use Rattle.noting.proofs.limit_at.Goals.{then-equal-gt0+else-not-has_more_children, else-equal-gt0}

pub overflow_add-pair : goal.overflow_add-pair
overflow_add-pair c = omega (arith, n.node_small c.requires.0 c.requires.2)

pub overflow_mul-pair : goal.overflow_mul-pair
overflow_mul-pair c = omega (arith, n.node_small c.requires.0 c.requires.2)

pub overflow_add-pair-then-equal-gt0 : goal.overflow_add-pair-then-equal-gt0
overflow_add-pair-then-equal-gt0 c = omega (arith, n.node_small c.requires.0 c.requires.2)

pub has_more_children-requires : goal.has_more_children-requires
has_more_children-requires c = n.limit_input c.requires.0 c.requires.1 c.requires.2 (omega arith)

pub returns-then-not-has_more_children : goal.returns-then-not-has_more_children
returns-then-not-has_more_children c = n.limit_less _ _ _ refl (broken c.has_more_children.result c.has_more_children.ensures (not_from_false _ c.if-not-has_more_children.true))

pub returns : goal.returns
returns c = elim c.if-equal-gt0.branch [
  | then-equal-gt0+else-not-has_more_children w ↦ n.limit_more _ _ _ refl (kept w.has_more_children.result w.has_more_children.ensures (not_from_true _ w.if-not-has_more_children.false))
  | else-equal-gt0 w ↦ n.limit_free w.if-equal-gt0.false
]
