use mathlib.Core.Path.{refl, sym}
use Prim.Native.Nat.{◌-◌}
use native.Mathlib.Omega.{arith}
use Rattle.merging.proofs.PassedLaws as st
use Rattle.std.proofs.lemmas.Bool.{not_from_false, not_from_true}
use Rattle.merging.proofs.heavier_end.Goals as goal

pub bounds-s-i : goal.bounds-s-i
bounds-s-i c = let h = c.requires in st.own _ _ _ _ _ h.1 h.2 h.3

pub loop-c-init : goal.loop-c-init
loop-c-init c = let h = c.requires in (refl, st.none_passed _ _ _ _ _ h.1 h.2 h.3)

pub bounds-s-c : goal.bounds-s-c
bounds-s-c c = let h = c.requires in st.inside _ _ _ _ _ h.1 h.2 h.3 _ c.loop-c-test.true

pub loop-c-preserved-then-here-pair : goal.loop-c-preserved-then-here-pair
loop-c-preserved-then-here-pair c = let h = c.requires in let v = c.loop-c.invariant in (v.0, st.greater_passed _ _ _ _ _ h.1 h.2 h.3 _ v.1 c.loop-c-test.true (rw (sym v.0) c.if-here-pair.true))

pub returns-then-here-pair-2 : goal.returns-then-here-pair-2
returns-then-here-pair-2 c = let z = let h = c.requires in let v = c.loop-c.invariant in st.at_less _ _ _ _ _ h.1 h.2 h.3 _ v.1 (rw (sym v.0) c.if-here-pair-2.true) in record { passed = z.0; next_no_heavier = z.1 }

pub lighter_below-requires : goal.lighter_below-requires
lighter_below-requires c = let h = c.requires in let v = c.loop-c.invariant in (h.0, h.1, st.inside _ _ _ _ _ h.1 h.2 h.3 _ c.loop-c-test.true, omega (arith, v.0, c.if-here-pair.false, c.if-here-pair-2.false))

pub returns-then-not-lighter_below : goal.returns-then-not-lighter_below
returns-then-not-lighter_below c = let z = let h = c.requires in let v = c.loop-c.invariant in st.at_no_heavier _ _ _ _ _ h.1 h.2 h.3 _ v.1 (rw (sym v.0) c.if-here-pair.false) _ c.lighter_below.ensures (not_from_false _ c.if-not-lighter_below.true) in record { passed = z.0; next_no_heavier = z.1 }

pub loop-c-preserved : goal.loop-c-preserved
loop-c-preserved c = let h = c.requires in let v = c.loop-c.invariant in (v.0, st.same_passed _ _ _ _ _ h.1 h.2 h.3 _ v.1 c.loop-c-test.true (rw (sym v.0) c.if-here-pair-2.false) _ c.lighter_below.ensures (not_from_true _ c.if-not-lighter_below.false))

pub returns : goal.returns
returns c = let z = let h = c.requires in st.at_last _ _ _ _ _ h.1 h.2 h.3 _ c.loop-c.invariant.1 c.loop-c-test.false in record { passed = z.0; next_no_heavier = z.1 }
