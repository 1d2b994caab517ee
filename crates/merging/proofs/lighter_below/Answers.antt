use mathlib.Core.Path.{refl}
use native.Mathlib.Omega.{arith}
use Rattle.merging.proofs.BelowSteps as st
use Rattle.merging.proofs.lighter_below.Goals as goal

pub overflow_add-deeper : goal.overflow_add-deeper
overflow_add-deeper c = omega (arith, (c.requires.0.pairs _ c.requires.2).depth_to_15)

pub overflow_mul-deeper : goal.overflow_mul-deeper
overflow_mul-deeper c = omega (arith, (c.requires.0.pairs _ c.requires.2).depth_to_15)

pub overflow_add-x : goal.overflow_add-x
overflow_add-x c = omega (arith, c.requires.1.after, c.requires.1.within)

pub loop-x-init : goal.loop-x-init
loop-x-init c = let h = c.requires in (refl, st.first_pairs _ _ _ _ h.1 h.3 h.2)

pub returns-then-y-s : goal.returns-then-y-s
returns-then-y-s c = let h = c.requires in st.other_ended _ _ _ _ h.1 h.3 _ _ c.loop-x.invariant.1 c.loop-x-test.true c.if-y-s.true

pub offset_bounds-s-x : goal.offset_bounds-s-x
offset_bounds-s-x c = omega (arith, c.requires.1.within, c.loop-x-test.true)

pub bounds-s-x : goal.bounds-s-x
bounds-s-x c = omega (arith, c.requires.1.within, c.loop-x-test.true)

pub bounds-s-y : goal.bounds-s-y
bounds-s-y c = omega (arith, c.loop-x.invariant.1.within, c.if-y-s.false)

pub returns-then-a-b : goal.returns-then-a-b
returns-then-a-b c = let h = c.requires in let v = c.loop-x.invariant.1 in st.own_less _ _ _ _ h.1 h.3 _ _ v c.loop-x-test.true (omega (arith, v.within, c.if-y-s.false)) c.if-a-b.true

pub returns-then-b-a : goal.returns-then-b-a
returns-then-b-a c = let h = c.requires in st.own_greater _ _ _ _ h.1 h.3 _ _ c.loop-x.invariant.1 c.loop-x-test.true c.if-b-a.true

pub loop-x-preserved : goal.loop-x-preserved
loop-x-preserved c = let h = c.requires in let v = c.loop-x.invariant in (v.0, st.both_on _ _ _ _ h.1 h.3 _ _ v.1 c.loop-x-test.true (omega (arith, v.1.within, c.if-y-s.false)) c.if-b-a.false c.if-a-b.false)

pub returns-then-y-s-2 : goal.returns-then-y-s-2
returns-then-y-s-2 c = let h = c.requires in st.both_ended _ _ _ _ h.1 h.3 _ _ c.loop-x.invariant.1 c.loop-x-test.false c.if-y-s-2.true

pub bounds-s-y-2 : goal.bounds-s-y-2
bounds-s-y-2 c = omega (arith, c.loop-x.invariant.1.within, c.if-y-s-2.false)

pub returns-then-s-y : goal.returns-then-s-y
returns-then-s-y c = let h = c.requires in let v = c.loop-x.invariant in st.next_outside _ _ _ _ h.1 h.3 _ _ v.1 c.loop-x-test.false (omega (arith, v.1.within, c.if-y-s-2.false)) (omega (arith, v.0, c.if-s-y.true))

pub returns : goal.returns
returns c = let h = c.requires in let v = c.loop-x.invariant in st.next_inside _ _ _ _ h.1 h.3 _ _ v.1 c.loop-x-test.false (omega (arith, v.1.within, c.if-y-s-2.false)) (omega (arith, v.0, c.if-s-y.false))
