use native.Mathlib.Omega.{arith}
use Rattle.noting.proofs.NoteLaws as n
use Rattle.noting.proofs.note_children.Goals as goal
use Rattle.noting.proofs.note_children.Goals.{then-pair-limit, else-pair-limit}

pub overflow_add-end : goal.overflow_add-end
overflow_add-end c = omega (arith, c.requires.inside, c.requires.is_fleet.nodes)

pub bounds-sizes-d : goal.bounds-sizes-d
bounds-sizes-d c = omega (arith, c.requires.inside, c.requires.is_fleet.nodes)

pub overflow_cast-end : goal.overflow_cast-end
overflow_cast-end c = omega (arith, c.requires.has_sizes.small _ c.requires.inside)

pub overflow_add-end-2 : goal.overflow_add-end-2
overflow_add-end-2 c = omega (arith, c.requires.inside, c.requires.is_fleet.nodes, c.requires.has_sizes.small _ c.requires.inside)

pub overflow_add-c : goal.overflow_add-c
overflow_add-c c = omega (arith, c.requires.inside, c.requires.is_fleet.nodes)

pub loop-c-init : goal.loop-c-init
loop-c-init c = n.children_start c.requires

pub bounds-fleet-c : goal.bounds-fleet-c
bounds-fleet-c c = n.child_inside c.loop-c.invariant c.loop-c-test.true

pub overflow_sub-pair : goal.overflow_sub-pair
overflow_sub-pair c = n.child_pair c.loop-c.invariant c.loop-c-test.true

pub note-requires : goal.note-requires
note-requires c = n.child_note c.loop-c.invariant c.loop-c-test.true c.if-pair-limit.true

pub overflow_add-c-in-loop-c : goal.overflow_add-c-in-loop-c
overflow_add-c-in-loop-c c = omega (arith, n.child_inside c.loop-c.invariant c.loop-c-test.true, c.loop-c.invariant.input.is_fleet.nodes)

pub bounds-sizes-c : goal.bounds-sizes-c
bounds-sizes-c c = omega (arith, n.child_inside c.loop-c.invariant c.loop-c-test.true, c.loop-c.invariant.input.is_fleet.nodes)

pub overflow_cast-c : goal.overflow_cast-c
overflow_cast-c c = omega (arith, n.child_size c.loop-c.invariant c.loop-c-test.true)

pub overflow_add-c-in-loop-c-2 : goal.overflow_add-c-in-loop-c-2
overflow_add-c-in-loop-c-2 c = omega (arith, n.child_inside c.loop-c.invariant c.loop-c-test.true, c.loop-c.invariant.input.is_fleet.nodes, n.child_size c.loop-c.invariant c.loop-c-test.true)

pub loop-c-preserved : goal.loop-c-preserved
loop-c-preserved c = elim c.if-pair-limit.branch [
  | then-pair-limit w ↦ rw (w.counts-is, w.last-is) (n.children_more c.loop-c.invariant c.loop-c-test.true w.if-pair-limit.true w.note.ensures)
  | else-pair-limit w ↦ rw (w.counts-is, w.last-is) (n.children_not c.loop-c.invariant c.loop-c-test.true (λ l. omega (arith, l, w.if-pair-limit.false)))
]

pub shape_of-counts : goal.shape_of-counts
shape_of-counts c = c.loop-c.invariant.some.all_counts

pub shape_of-last : goal.shape_of-last
shape_of-last c = c.loop-c.invariant.some.all_last

pub returns : goal.returns
returns c = n.children_end c.loop-c.invariant c.loop-c-test.false
