use Rattle.exchange.proofs.ShiftBackSteps as st
use Rattle.exchange.proofs.shift_back.Given as goal

abbrev pub invariant-loop-k : goal.invariant-loop-k
invariant-loop-k l = st.ShiftingBack l.initial.s l.s l.a l.b l.k
