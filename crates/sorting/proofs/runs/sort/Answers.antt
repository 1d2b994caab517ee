use native.Mathlib.Omega.{arith}
use Rattle.merging.proofs.SiblingLaws.{unmoved, rearranged_twice, same_size}
use Rattle.sorting.proofs.SortSteps as st
use Rattle.sorting.proofs.runs.sort.Goals as goal

pub loop-i-init : goal.loop-i-init
loop-i-init c = (c.requires, unmoved c.requires, omega arith, st.none_yet _)

pub loop-i-preserved-then-has_child : goal.loop-i-preserved-then-has_child
loop-i-preserved-then-has_child c = let v = c.loop-i.invariant in let p = c.order_children.ensures in (v.0, rearranged_twice v.0 v.1 p.0, omega (arith, v.2, same_size p.0), p.1)

pub loop-i-preserved : goal.loop-i-preserved
loop-i-preserved c = let v = c.loop-i.invariant in (v.0, v.1, omega (arith, v.2), st.no_child _ _ (st.next_nodes _ _ c.loop-i-test.true v.3) (c.has_child.ensures.1 c.if-has_child.false))

pub returns : goal.returns
returns c = let v = c.loop-i.invariant in st.sorted v.0 v.1 (st.all_in_order _ v.1.is_tree _ c.loop-i-test.false v.3)
