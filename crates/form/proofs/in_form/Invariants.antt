use Prim.Native.Nat.{◌-◌}
use Rattle.form.proofs.InFormSteps as st
use Rattle.form.proofs.in_form.Given as goal

abbrev pub invariant-loop-j : goal.invariant-loop-j
invariant-loop-j l = st.CheckedBehind l.pattern (l.j - 1)
