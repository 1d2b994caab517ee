use Prim.Native.Nat.{◌-◌}
use Rattle.exchange.proofs.ReverseSteps as st
use Rattle.exchange.proofs.reverse.Given as goal

abbrev pub invariant-loop-x : goal.invariant-loop-x
invariant-loop-x l = st.Reversing l.initial.s l.s l.a l.b l.x l.y

abbrev pub decreases-loop-x : goal.decreases-loop-x
decreases-loop-x l = l.y - l.x
