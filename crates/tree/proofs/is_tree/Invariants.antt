use Rattle.tree.proofs.TreeSteps as st
use Rattle.tree.proofs.is_tree.Given as goal

abbrev pub invariant-loop-i : goal.invariant-loop-i
invariant-loop-i l = st.TreeTo l.pairs l.i l.above
