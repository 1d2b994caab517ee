use mathlib.Core.Path.{◌≡◌}
use Prim.Native.Nat.{◌+◌, ◌-◌, ◌*◌}
use Rattle.terms.specs.Tree.{depthAt}
use Rattle.merging.proofs.BelowSteps as st
use Rattle.merging.proofs.lighter_below.Given as goal

abbrev pub invariant-loop-x : goal.invariant-loop-x
invariant-loop-x l = (l.deeper ≡ (depthAt l.s l.j + 1) * 1000) × st.Alike l.s l.i l.e l.j l.x l.y

abbrev pub decreases-loop-x : goal.decreases-loop-x
decreases-loop-x l = l.e - l.x
