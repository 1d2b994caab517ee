use native.Mathlib.Omega.{arith}
use borrow.Author.Tests.{lt-ltb, ne_eqb}
use Rattle.sorting.proofs.RunLaws as st
use Rattle.sorting.proofs.runs.heavier_than_left.Goals as goal

pub returns-then-s-i : goal.returns-then-s-i
returns-then-s-i c = rw (lt-ltb _ _ c.if-s-i.true) (st.first_less c.requires.1 c.if-s-i.true)

pub returns-else-s-i-2 : goal.returns-else-s-i-2
returns-else-s-i-2 c = rw (ne_eqb _ _ c.if-s-i-2.false) (st.first_greater c.requires.1 (omega (arith, c.if-s-i.false, c.if-s-i-2.false)))
