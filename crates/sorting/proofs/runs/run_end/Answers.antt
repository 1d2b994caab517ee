use mathlib.Core.Path.{refl}
use Prim.Native.Nat.{◌-◌}
use native.Mathlib.Omega.{arith}
use Rattle.sorting.proofs.RunLaws as st
use Rattle.sorting.proofs.runs.run_end.Goals as goal

pub overflow_mul-level : goal.overflow_mul-level
overflow_mul-level c = omega (arith, (c.requires.0.pairs _ c.requires.1).depth_to_15)

pub overflow_add-deeper : goal.overflow_add-deeper
overflow_add-deeper c = omega (arith, (c.requires.0.pairs _ c.requires.1).depth_to_15)

pub loop-c-init : goal.loop-c-init
loop-c-init c = (refl, refl, st.begun _ _ c.requires.1)

pub loop-c-preserved-then-here-deeper : goal.loop-c-preserved-then-here-deeper
loop-c-preserved-then-here-deeper c = let v = c.loop-c.invariant in (v.0, v.1, st.deeper_on v.2 c.loop-c-test.true (omega arith))

pub returns-then-here-level : goal.returns-then-here-level
returns-then-here-level c = let v = c.loop-c.invariant in st.ended v.2 (λ _. omega arith)

pub heavier_than_left-requires : goal.heavier_than_left-requires
heavier_than_left-requires c = let v = c.loop-c.invariant in (c.requires.0, st.last_end v.2 c.loop-c-test.true (omega arith), c.loop-c-test.true)

pub returns-then-heavier_than_left : goal.returns-then-heavier_than_left
returns-then-heavier_than_left c = let v = c.loop-c.invariant in st.ended v.2 (λ _. omega arith)

pub loop-c-preserved : goal.loop-c-preserved
loop-c-preserved c = let v = c.loop-c.invariant in (v.0, v.1, st.sibling_on v.2 _ c.loop-c-test.true (omega arith) c.heavier_than_left.ensures c.if-heavier_than_left.false)

pub returns : goal.returns
returns c = st.ended c.loop-c.invariant.2 (λ h. absurd (omega arith))
