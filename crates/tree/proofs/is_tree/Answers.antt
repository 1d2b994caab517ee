use native.Mathlib.Omega.{arith}
use Rattle.tree.proofs.TreeSteps as st
use Rattle.tree.proofs.is_tree.Goals as goal
use Rattle.tree.proofs.is_tree.Goals.{then-pairs-eq0-via-then-pairs-eq0, then-pairs-eq0-via-else-pairs-eq0+then-pairs-eq0-2, then-pairs-eq0-via-else-pairs-eq0+else-pairs-eq0-2+then-pairs-ge-UNIT}
use Rattle.tree.proofs.is_tree.Goals.{then-x-eq0-via-then-x-eq0, then-x-eq0-via-else-x-eq0+then-depth-eq0, then-x-eq0-via-else-x-eq0+else-depth-eq0+then-depth-gt-DEPTH, then-x-eq0-via-else-x-eq0+else-depth-eq0+else-depth-gt-DEPTH+then-depth-above}

pub returns-then-pairs-eq0 : goal.returns-then-pairs-eq0
returns-then-pairs-eq0 c =
    elim c.then-pairs-eq0.branch [
      | then-pairs-eq0-via-then-pairs-eq0 w ↦ st.empty_no _ w.if-pairs-eq0.true
      | then-pairs-eq0-via-else-pairs-eq0+then-pairs-eq0-2 w ↦ st.zero_no _ w.if-pairs-eq0.false w.if-pairs-eq0-2.true
      | then-pairs-eq0-via-else-pairs-eq0+else-pairs-eq0-2+then-pairs-ge-UNIT w ↦ st.root_no _ w.if-pairs-ge-UNIT.true
    ]

pub loop-i-init : goal.loop-i-init
loop-i-init c = st.root_alone _ c.if-pairs-eq0.false c.if-pairs-eq0-2.false c.if-pairs-ge-UNIT.false

pub returns-then-x-eq0 : goal.returns-then-x-eq0
returns-then-x-eq0 c =
    let l = c.loop-i in
    let b = c.loop-i-test.true in
    elim c.then-x-eq0.branch [
      | then-x-eq0-via-then-x-eq0 w ↦ st.label_no _ _ b w.if-x-eq0.true
      | then-x-eq0-via-else-x-eq0+then-depth-eq0 w ↦ st.second_root_no _ _ l.invariant.some b w.if-depth-eq0.true
      | then-x-eq0-via-else-x-eq0+else-depth-eq0+then-depth-gt-DEPTH w ↦ st.deep_no _ _ b w.if-depth-gt-DEPTH.true
      | then-x-eq0-via-else-x-eq0+else-depth-eq0+else-depth-gt-DEPTH+then-depth-above w ↦ st.jump_no _ _ _ b l.invariant w.if-depth-above.true
    ]

pub loop-i-preserved : goal.loop-i-preserved
loop-i-preserved c = st.one_more _ _ _ c.loop-i.invariant c.loop-i-test.true c.if-x-eq0.false c.if-depth-eq0.false c.if-depth-gt-DEPTH.false c.if-depth-above.false

pub returns : goal.returns
returns c = st.all_yes _ _ _ c.loop-i-test.false c.loop-i.invariant
