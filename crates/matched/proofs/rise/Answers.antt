use native.Mathlib.Omega.{arith}
use Rattle.matched.proofs.AskLaws as l
use Rattle.matched.proofs.rise.Goals as goal
use Rattle.matched.proofs.rise.Goals.{then-ne, else-ne}

pub loop-next-init : goal.loop-next-init
loop-next-init c = l.rise_start c.requires

pub bounds-nodes-next : goal.bounds-nodes-next
bounds-nodes-next c = l.rise_there c.loop-next.invariant c.loop-next-test.true

pub overflow_cast-above : goal.overflow_cast-above
overflow_cast-above c = omega (arith, l.rise_small c.loop-next.invariant c.loop-next-test.true)

pub offset_bounds-parents-nodes : goal.offset_bounds-parents-nodes
offset_bounds-parents-nodes c = omega (arith, l.rise_small c.loop-next.invariant c.loop-next-test.true)

pub bounds-parents-nodes : goal.bounds-parents-nodes
bounds-parents-nodes c = omega (arith, l.rise_small c.loop-next.invariant c.loop-next-test.true, c.requires.has_parents.all)

pub bounds-nodes-kept : goal.bounds-nodes-kept
bounds-nodes-kept c = l.rise_room c.loop-next.invariant c.loop-next-test.true

pub loop-next-preserved : goal.loop-next-preserved
loop-next-preserved c = elim c.if-ne.branch [
  | then-ne w ↦ rw (w.nodes-is, w.before-is, w.kept-is) (l.rise_new c.loop-next.invariant c.loop-next-test.true)
  | else-ne w ↦ rw (w.nodes-is, w.before-is, w.kept-is) (l.rise_same c.loop-next.invariant c.loop-next-test.true (l.value_there _ _ w.if-ne.ensures))
]

pub shape_of-nodes : goal.shape_of-nodes
shape_of-nodes c = c.loop-next.invariant.same_length

pub returns : goal.returns
returns c = l.rise_end c.loop-next.invariant c.loop-next-test.false
