use mathlib.Core.Path.{◌≡◌}
use Prim.Native.Nat.{◌+◌, ◌-◌, ◌*◌}
use lib.ListN.{length}
use Rattle.terms.specs.Tree.{depthAt}
use Rattle.sorting.proofs.RunLaws as st
use Rattle.sorting.proofs.runs.run_end.Given as goal

abbrev pub invariant-loop-c : goal.invariant-loop-c
invariant-loop-c l = (l.level ≡ depthAt l.s l.a * 1000) × (l.deeper ≡ depthAt l.s l.a * 1000 + 1000) × st.Running l.s l.a l.last l.c

abbrev pub decreases-loop-c : goal.decreases-loop-c
decreases-loop-c l = length l.s - l.c
