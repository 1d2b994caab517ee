use mathlib.Core.Path.{◌≡◌}
use Prim.Native.Nat.{◌-◌}
use lib.ListN.{get_or}
use Rattle.merging.proofs.PassedLaws as st
use Rattle.merging.proofs.heavier_end.Given as goal

abbrev pub invariant-loop-c : goal.invariant-loop-c
invariant-loop-c l = (l.pair ≡ get_or l.s l.i 0) × st.PassedTo l.s l.i l.e l.m l.b l.c

abbrev pub decreases-loop-c : goal.decreases-loop-c
decreases-loop-c l = l.b - l.c
