use native.Mathlib.Omega.{arith}
use Rattle.merging.proofs.SiblingLaws.{unmoved, rearranged_twice, same_size}
use Rattle.sorting.proofs.SortSteps as st
use Rattle.sorting.proofs.insertion.sort.Goals as goal

pub loop-i-init : goal.loop-i-init
loop-i-init c = (c.requires, unmoved c.requires, omega (arith, c.requires.has_root), st.last_in_order _, st.last_sibling c.requires)

pub loop-i-preserved : goal.loop-i-preserved
loop-i-preserved c = let v = c.loop-i.invariant in let p = c.sink-known.ensures in (v.0, rearranged_twice v.0 v.1 p.0, omega (arith, v.2, same_size p.0), p.1, p.2)

pub returns : goal.returns
returns c = let v = c.loop-i.invariant in st.sorted v.0 v.1 (st.but_the_root _ v.1.is_tree _ c.loop-i-test.false v.3)
