use native.Mathlib.Omega.{arith}
use mathlib.Core.Path.{sym}
use lib.Seq.{length-take-le}
use Rattle.std.proofs.lemmas.Bool.{eqb-false}
use Rattle.matched.proofs.AskLaws as l
use Rattle.matched.proofs.matched_leaf.Goals as goal

pub branch_of-branch-requires : goal.branch_of-branch-requires
branch_of-branch-requires c = l.pattern_input c.requires

pub overflow_sub-deepest : goal.overflow_sub-deepest
overflow_sub-deepest c = c.requires.is_tree.has_root

pub offset_bounds-pattern-pattern : goal.offset_bounds-pattern-pattern
offset_bounds-pattern-pattern c = omega (arith, c.requires.few)

pub bounds-pattern-pattern : goal.bounds-pattern-pattern
bounds-pattern-pattern c = omega (arith, c.requires.is_tree.has_root)

pub overflow_cast-deepest : goal.overflow_cast-deepest
overflow_cast-deepest c = omega (arith, l.last_depth c.requires)

pub loop-steps-init : goal.loop-steps-init
loop-steps-init c = l.branch_from c.requires (omega (arith, eqb-false _ _ (sym c.if-is_empty.ensures)))

pub overflow_sub-b : goal.overflow_sub-b
overflow_sub-b c = c.loop-steps.invariant.enough

pub offset_bounds-branch-deepest : goal.offset_bounds-branch-deepest
offset_bounds-branch-deepest c = omega (arith, l.last_depth c.requires)

pub bounds-branch-deepest : goal.bounds-branch-deepest
bounds-branch-deepest c = omega (arith, l.last_depth c.requires, c.branch_of-branch.ensures.all)

pub slice_bounds-child_everywhere-end : goal.slice_bounds-child_everywhere-end
slice_bounds-child_everywhere-end c = c.loop-steps.invariant.there

pub slice_bounds-child_everywhere-end-in-loop-steps : goal.slice_bounds-child_everywhere-end-in-loop-steps
slice_bounds-child_everywhere-end-in-loop-steps c = sym (length-take-le _ _ c.loop-steps.invariant.there)

pub child_everywhere-pair-requires : goal.child_everywhere-pair-requires
child_everywhere-pair-requires c = l.branch_node c.loop-steps.invariant c.branch_of-branch.ensures c.loop-steps-test.true

pub shape_of-places-then-is_some : goal.shape_of-places-then-is_some
shape_of-places-then-is_some c = c.loop-steps.invariant.same_length

pub returns-then-is_some : goal.returns-then-is_some
returns-then-is_some c = c.child_everywhere-pair.ensures

pub rise-count-requires : goal.rise-count-requires
rise-count-requires c = l.branch_below c.loop-steps.invariant c.loop-steps-test.true

pub loop-steps-preserved : goal.loop-steps-preserved
loop-steps-preserved c = l.branch_up c.loop-steps.invariant c.loop-steps-test.true (omega arith) c.rise-count.ensures

pub slice_bounds-child_everywhere-end-2 : goal.slice_bounds-child_everywhere-end-2
slice_bounds-child_everywhere-end-2 c = c.loop-steps.invariant.there

pub slice_bounds-child_everywhere-end-3 : goal.slice_bounds-child_everywhere-end-3
slice_bounds-child_everywhere-end-3 c = sym (length-take-le _ _ c.loop-steps.invariant.there)

pub child_everywhere-requires : goal.child_everywhere-requires
child_everywhere-requires c = l.branch_top c.loop-steps.invariant c.loop-steps-test.false

pub shape_of-places : goal.shape_of-places
shape_of-places c = c.loop-steps.invariant.same_length

pub returns : goal.returns
returns c = c.child_everywhere.ensures
