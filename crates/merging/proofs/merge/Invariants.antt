use Prim.Native.Nat.{◌-◌, ◌<◌}
use Rattle.merging.proofs.MergeLaws as st
use Rattle.merging.proofs.merge.Given as goal

abbrev pub invariant-loop-a : goal.invariant-loop-a
invariant-loop-a l = st.Merging l.initial.s l.s l.first l.a l.m l.b × (l.m < l.b)

abbrev pub decreases-loop-a : goal.decreases-loop-a
decreases-loop-a l = l.b - l.a
