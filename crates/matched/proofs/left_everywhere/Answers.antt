use native.Mathlib.Omega.{arith}
use Rattle.fleet.proofs.TellsLaws.{broken, kept}
use Rattle.matched.proofs.AskLaws as l
use Rattle.std.proofs.lemmas.Bool.{not_from_false, not_from_true}
use Rattle.matched.proofs.left_everywhere.Goals as goal

pub loop-node-init : goal.loop-node-init
loop-node-init c = l.left_start c.requires

pub overflow_cast-d : goal.overflow_cast-d
overflow_cast-d c = omega (arith, l.asked_small c.loop-node.invariant c.loop-node-test.true)

pub offset_bounds-fleet-d : goal.offset_bounds-fleet-d
offset_bounds-fleet-d c = omega (arith, l.asked_small c.loop-node.invariant c.loop-node-test.true)

pub bounds-fleet-d : goal.bounds-fleet-d
bounds-fleet-d c = l.asked_inside c.loop-node.invariant c.loop-node-test.true

pub overflow_add-pair : goal.overflow_add-pair
overflow_add-pair c = omega (arith, l.asked_depth c.loop-node.invariant c.loop-node-test.true)

pub overflow_mul-pair : goal.overflow_mul-pair
overflow_mul-pair c = omega (arith, l.asked_depth c.loop-node.invariant c.loop-node-test.true)

pub overflow_add-pair-in-loop-node : goal.overflow_add-pair-in-loop-node
overflow_add-pair-in-loop-node c = omega (arith, l.asked_depth c.loop-node.invariant c.loop-node-test.true, c.requires.label_small)

pub has_more_children-requires : goal.has_more_children-requires
has_more_children-requires c = l.asked_child c.loop-node.invariant c.loop-node-test.true

pub returns-then-not-has_more_children : goal.returns-then-not-has_more_children
returns-then-not-has_more_children c = l.left_not c.loop-node.invariant c.loop-node-test.true (broken c.has_more_children.result c.has_more_children.ensures (not_from_false _ c.if-not-has_more_children.true))

pub loop-node-preserved : goal.loop-node-preserved
loop-node-preserved c = l.left_more c.loop-node.invariant c.loop-node-test.true (kept c.has_more_children.result c.has_more_children.ensures (not_from_true _ c.if-not-has_more_children.false))

pub returns : goal.returns
returns c = l.left_end c.loop-node.invariant c.loop-node-test.false
