use native.Mathlib.Omega.{arith}
use Rattle.branch.proofs.BranchLevels as b
use Rattle.branch.proofs.levels.Goals as goal
use Rattle.branch.proofs.levels.Goals.{then-pair-most, else-pair-most}

pub offset_bounds-pattern-child : goal.offset_bounds-pattern-child
offset_bounds-pattern-child c = omega (arith, b.child_inside c.requires.0 c.branch_of-branch.ensures c.loop-depth-test.true, c.requires.0.few)

pub bounds-pattern-child : goal.bounds-pattern-child
bounds-pattern-child c = b.child_inside c.requires.0 c.branch_of-branch.ensures c.loop-depth-test.true

pub equal_children-requires : goal.equal_children-requires
equal_children-requires c = (b.child_new c.requires.0 c.branch_of-branch.ensures c.loop-depth-test.true, c.requires.0.few)

pub bounds-heaviest-depth-else-pair-most : goal.bounds-heaviest-depth-else-pair-most
bounds-heaviest-depth-else-pair-most c = omega (arith, b.depth_below c.requires.0 c.loop-depth-test.true, c.loop-depth.invariant.all_heaviest)

pub bounds-equal-depth-else-pair-most : goal.bounds-equal-depth-else-pair-most
bounds-equal-depth-else-pair-most c = omega (arith, b.depth_below c.requires.0 c.loop-depth-test.true, c.loop-depth.invariant.all_equal)

pub loop-depth-preserved : goal.loop-depth-preserved
loop-depth-preserved c = elim c.if-pair-most.branch [
  | then-pair-most w ↦ rw (w.heaviest-is, w.equal-is) (b.levels_child c.requires.0 c.branch_of-branch.ensures c.loop-depth-test.true c.limit-most.ensures c.loop-depth.invariant (omega (arith, w.if-pair-most.true)) w.equal_children.ensures)
  | else-pair-most w ↦ rw (w.heaviest-is, w.equal-is) (b.levels_limited c.requires.0 c.branch_of-branch.ensures c.loop-depth-test.true c.limit-most.ensures c.loop-depth.invariant w.if-pair-most.false)
]

pub returns : goal.returns
returns c = b.levels_last c.requires.0 c.limit-most.ensures c.loop-depth.invariant c.loop-depth-test.false c.min.ensures
