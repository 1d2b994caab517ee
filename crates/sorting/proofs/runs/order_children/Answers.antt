use native.Mathlib.Omega.{arith}
use Rattle.merging.proofs.SiblingLaws.{same_size}
use Rattle.sorting.proofs.SortSteps as st
use Rattle.sorting.proofs.runs.order_children.Goals as goal

pub loop-limit-init : goal.loop-limit-init
loop-limit-init c = st.no_round_yet c.requires.0 c.requires.1 c.requires.2

pub merge_runs-limit-requires : goal.merge_runs-limit-requires
merge_runs-limit-requires c = let v = c.loop-limit.invariant in (v.rearranged.is_tree, v.parent, v.later)

pub overflow_mul-limit : goal.overflow_mul-limit
overflow_mul-limit c = omega (arith, st.fits c.loop-limit.invariant c.merge_runs-limit.ensures)

pub loop-limit-smaller : goal.loop-limit-smaller
loop-limit-smaller c = st.round_less c.loop-limit.invariant c.loop-limit-test.true c.merge_runs-limit.ensures

pub loop-limit-preserved : goal.loop-limit-preserved
loop-limit-preserved c = st.one_round c.loop-limit.invariant c.merge_runs-limit.ensures

pub shape_of-s : goal.shape_of-s
shape_of-s c = same_size c.loop-limit.invariant.rearranged

pub returns : goal.returns
returns c = let v = c.loop-limit.invariant in (v.rearranged, v.done (omega arith))
