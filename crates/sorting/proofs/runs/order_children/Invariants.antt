use Prim.Native.Nat.{◌+◌, ◌*◌}
use lib.ListN.{length}
use Rattle.sorting.proofs.SortSteps as st
use Rattle.sorting.proofs.runs.order_children.Given as goal

abbrev pub invariant-loop-limit : goal.invariant-loop-limit
invariant-loop-limit l = st.Rounds l.initial.s l.s l.node l.limit

abbrev pub decreases-loop-limit : goal.decreases-loop-limit
decreases-loop-limit l = st.rounds_left (2 * length l.initial.s + 16) l.limit
