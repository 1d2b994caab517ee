use Rattle.exchange.proofs.ShiftSteps as st
use Rattle.exchange.proofs.shift.Given as goal

abbrev pub invariant-loop-k : goal.invariant-loop-k
invariant-loop-k l = st.Shifting l.initial.s l.s l.a l.c l.k
