use mathlib.Core.Path.{◌∙◌}
use native.Mathlib.Omega.{arith}
use Rattle.merging.proofs.MergeLaws as st
use Rattle.merging.proofs.merge.Goals as goal

pub loop-a-init : goal.loop-a-init
loop-a-init c = let h = c.requires in (st.begun _ _ _ _ h.0 h.1, h.1.second.some)

pub subtree_end-e-requires : goal.subtree_end-e-requires
subtree_end-e-requires c = st.asks_end c.loop-a.invariant.0 c.loop-a-test.true

pub heavier_end-c-requires : goal.heavier_end-c-requires
heavier_end-c-requires c = let v = c.loop-a.invariant in st.asks_heavier v.0 c.loop-a-test.true v.1 c.subtree_end-e.ensures

pub exchange-requires : goal.exchange-requires
exchange-requires c = st.asks_exchange c.loop-a.invariant.0 c.loop-a-test.true c.heavier_end-c.ensures.passed

pub shape_of-s-then-c-b : goal.shape_of-s-then-c-b
shape_of-s-then-c-b c = c.exchange.ensures.same_length ∙ st.sizes c.loop-a.invariant.0

pub returns-then-c-b : goal.returns-then-c-b
returns-then-c-b c = let v = c.loop-a.invariant in let h = c.heavier_end-c.ensures in st.second_placed (st.one_more _ _ _ _ _ _ _ _ _ v.0 c.loop-a-test.true v.1 c.subtree_end-e.ensures h.passed h.next_no_heavier c.exchange.ensures) c.if-c-b.true

pub overflow_sub-a : goal.overflow_sub-a
overflow_sub-a c = let v = c.loop-a.invariant in (st.goes_to v.0 c.loop-a-test.true v.1 c.subtree_end-e.ensures c.heavier_end-c.ensures.passed).0

pub overflow_add-a : goal.overflow_add-a
overflow_add-a c = let v = c.loop-a.invariant in let z = st.goes_to v.0 c.loop-a-test.true v.1 c.subtree_end-e.ensures c.heavier_end-c.ensures.passed in omega arith

pub loop-a-smaller : goal.loop-a-smaller
loop-a-smaller c = let v = c.loop-a.invariant in let z = st.goes_to v.0 c.loop-a-test.true v.1 c.subtree_end-e.ensures c.heavier_end-c.ensures.passed in omega arith

pub loop-a-preserved : goal.loop-a-preserved
loop-a-preserved c = let v = c.loop-a.invariant in let h = c.heavier_end-c.ensures in (st.one_more _ _ _ _ _ _ _ _ _ v.0 c.loop-a-test.true v.1 c.subtree_end-e.ensures h.passed h.next_no_heavier c.exchange.ensures, omega (arith, h.passed.within, c.if-c-b.false))

pub shape_of-s : goal.shape_of-s
shape_of-s c = st.sizes c.loop-a.invariant.0

pub returns : goal.returns
returns c = let v = c.loop-a.invariant in st.first_placed v.0 v.1 c.loop-a-test.false
