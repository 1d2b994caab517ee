use native.Mathlib.Omega.{arith}
use Rattle.fleet.proofs.TellsLaws.{told_yes}
use Rattle.matched.proofs.AskLaws as l
use Rattle.matched.proofs.child_everywhere.Goals as goal

pub bounds-nodes-0 : goal.bounds-nodes-0
bounds-nodes-0 c = c.requires.some

pub overflow_cast-d : goal.overflow_cast-d
overflow_cast-d c = omega (arith, l.node_fits c.requires)

pub offset_bounds-fleet-d : goal.offset_bounds-fleet-d
offset_bounds-fleet-d c = omega (arith, l.node_fits c.requires)

pub bounds-fleet-d : goal.bounds-fleet-d
bounds-fleet-d c = l.node_inside c.requires

pub offset_bounds-pattern-b : goal.offset_bounds-pattern-b
offset_bounds-pattern-b c = omega (arith, c.requires.on_branch.inside, c.requires.few)

pub bounds-pattern-b : goal.bounds-pattern-b
bounds-pattern-b c = c.requires.on_branch.inside

pub overflow_sub-above : goal.overflow_sub-above
overflow_sub-above c = l.node_depth c.requires

pub overflow_mul-above : goal.overflow_mul-above
overflow_mul-above c = omega (arith, l.node_small c.requires)

pub overflow_add-end : goal.overflow_add-end
overflow_add-end c = omega (arith, l.ends_fits c.requires)

pub bounds-sizes-d : goal.bounds-sizes-d
bounds-sizes-d c = omega (arith, l.ends_fits c.requires)

pub overflow_cast-end : goal.overflow_cast-end
overflow_cast-end c = omega (arith, l.ends_fits c.requires)

pub overflow_add-end-2 : goal.overflow_add-end-2
overflow_add-end-2 c = omega (arith, l.ends_fits c.requires)

pub overflow_add-c : goal.overflow_add-c
overflow_add-c c = omega (arith, l.ends_fits c.requires)

pub loop-c-init : goal.loop-c-init
loop-c-init c = l.children_start c.requires

pub offset_bounds-fleet-c : goal.offset_bounds-fleet-c
offset_bounds-fleet-c c = omega (arith, l.child_fits c.loop-c.invariant c.loop-c-test.true)

pub bounds-fleet-c : goal.bounds-fleet-c
bounds-fleet-c c = l.child_inside c.loop-c.invariant c.loop-c-test.true

pub overflow_sub-pair : goal.overflow_sub-pair
overflow_sub-pair c = l.child_pair c.loop-c.invariant c.loop-c-test.true

pub equal_children-own-requires : goal.equal_children-own-requires
equal_children-own-requires c = (l.child_new c.loop-c.invariant c.loop-c-test.true, c.requires.few)

pub left_everywhere-requires : goal.left_everywhere-requires
left_everywhere-requires c = l.child_nodes c.loop-c.invariant c.loop-c-test.true

pub returns-then-left_everywhere : goal.returns-then-left_everywhere
returns-then-left_everywhere c = l.child_matched c.loop-c.invariant c.loop-c-test.true c.equal_children-own.ensures.0 (told_yes c.left_everywhere.result c.left_everywhere.ensures c.if-left_everywhere.true)

pub overflow_add-tries : goal.overflow_add-tries
overflow_add-tries c = omega (arith, c.if-tries-lt-TRIES.true)

pub overflow_add-c-in-loop-c : goal.overflow_add-c-in-loop-c
overflow_add-c-in-loop-c c = omega (arith, l.child_fits c.loop-c.invariant c.loop-c-test.true)

pub bounds-sizes-c : goal.bounds-sizes-c
bounds-sizes-c c = omega (arith, l.child_fits c.loop-c.invariant c.loop-c-test.true)

pub overflow_cast-c : goal.overflow_cast-c
overflow_cast-c c = omega (arith, l.child_fits c.loop-c.invariant c.loop-c-test.true)

pub overflow_add-c-in-loop-c-2 : goal.overflow_add-c-in-loop-c-2
overflow_add-c-in-loop-c-2 c = omega (arith, l.child_fits c.loop-c.invariant c.loop-c-test.true)

pub loop-c-smaller : goal.loop-c-smaller
loop-c-smaller c = omega (arith, c.loop-c-test.true)

pub loop-c-preserved : goal.loop-c-preserved
loop-c-preserved c = l.children_next c.loop-c.invariant c.loop-c-test.true
