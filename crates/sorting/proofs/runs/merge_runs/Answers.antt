use mathlib.Core.Path.{refl}
use native.Mathlib.Omega.{arith}
use Rattle.sorting.proofs.ChildLaws as st
use Rattle.sorting.proofs.runs.merge_runs.Goals as goal

pub overflow_mul-level : goal.overflow_mul-level
overflow_mul-level c = omega (arith, (c.requires.0.pairs _ c.requires.1.inside).depth_to_15)

pub run_end-m-requires : goal.run_end-m-requires
run_end-m-requires c = (c.requires.0, c.requires.1.inside)

pub loop-m-init : goal.loop-m-init
loop-m-init c = let h = c.requires in (refl, refl, st.begun _ h.0 h.1 h.2 c.run_end-m.ensures)

pub offset_bounds-s-m : goal.offset_bounds-s-m
offset_bounds-s-m c = omega (arith, st.sizes c.loop-m.invariant.2, c.loop-m-test.true)

pub shape_of-s-then-s-m : goal.shape_of-s-then-s-m
shape_of-s-then-s-m c = st.sizes c.loop-m.invariant.2

pub returns-then-s-m : goal.returns-then-s-m
returns-then-s-m c = let v = c.loop-m.invariant in st.ended v.2 (λ _. omega (arith, v.1, v.2.kept.level, c.if-s-m.true))

pub run_end-b-requires : goal.run_end-b-requires
run_end-b-requires c = (st.is_tree c.loop-m.invariant.2, c.loop-m-test.true)

pub merges-requires : goal.merges-requires
merges-requires c = let v = c.loop-m.invariant in let z = st.bounds v.2 c.loop-m-test.true (omega (arith, v.1, v.2.kept.level, c.if-s-m.false)) c.run_end-b.ensures in (omega (arith, v.0, z.0), z.1, z.2)

pub merge-requires : goal.merge-requires
merge-requires c = let v = c.loop-m.invariant in st.two_runs v.2 c.loop-m-test.true (omega (arith, v.1, v.2.kept.level, c.if-s-m.false)) c.run_end-b.ensures

pub loop-m-smaller-then-merges : goal.loop-m-smaller-then-merges
loop-m-smaller-then-merges c = let z = c.run_end-b.ensures.siblings in omega (arith, z.some, z.within, c.loop-m-test.true)

pub loop-m-preserved-then-merges : goal.loop-m-preserved-then-merges
loop-m-preserved-then-merges c = let v = c.loop-m.invariant in (v.0, v.1, st.merged v.2 c.loop-m-test.true (omega (arith, v.1, v.2.kept.level, c.if-s-m.false)) c.run_end-b.ensures c.merge.ensures)

pub overflow_sub-b : goal.overflow_sub-b
overflow_sub-b c = let v = c.loop-m.invariant in (st.bounds v.2 c.loop-m-test.true (omega (arith, v.1, v.2.kept.level, c.if-s-m.false)) c.run_end-b.ensures).1

pub loop-m-smaller : goal.loop-m-smaller
loop-m-smaller c = let z = c.run_end-b.ensures.siblings in omega (arith, z.some, z.within, c.loop-m-test.true)

pub loop-m-preserved : goal.loop-m-preserved
loop-m-preserved c = let v = c.loop-m.invariant in (v.0, v.1, st.left v.2 c.loop-m-test.true (omega (arith, v.1, v.2.kept.level, c.if-s-m.false)) c.run_end-b.ensures (c.merges.ensures c.if-merges.false) c.fewer-fewest.ensures)

pub shape_of-s : goal.shape_of-s
shape_of-s c = st.sizes c.loop-m.invariant.2

pub returns : goal.returns
returns c = st.ended c.loop-m.invariant.2 (λ h. absurd (omega arith))
