use mathlib.Core.Path.{◌≡◌}
use Prim.Native.Nat.{◌+◌, ◌-◌, ◌*◌}
use lib.ListN.{length}
use Rattle.terms.specs.Tree.{depthAt}
use Rattle.sorting.proofs.ChildLaws as st
use Rattle.sorting.proofs.runs.merge_runs.Given as goal

abbrev pub invariant-loop-m : goal.invariant-loop-m
invariant-loop-m l = (l.first ≡ l.node + 1) × (l.level ≡ depthAt l.initial.s (l.node + 1) * 1000) × st.Runs l.initial.s l.s l.node l.limit l.a l.m l.fewest

abbrev pub decreases-loop-m : goal.decreases-loop-m
decreases-loop-m l = length l.s - l.m
