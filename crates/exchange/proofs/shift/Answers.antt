use native.Mathlib.Omega.{arith}
use lib.ListN.{length-set}
use Rattle.exchange.proofs.ShiftSteps as st
use Rattle.exchange.proofs.shift.Goals as goal

pub loop-k-init : goal.loop-k-init
loop-k-init c = st.begun _ _ _ c.requires.0 c.requires.1

pub loop-k-preserved : goal.loop-k-preserved
loop-k-preserved c = let l = c.loop-k in st.one_more _ l.s _ _ l.k l.invariant (omega arith)

pub shape_of-s : goal.shape_of-s
shape_of-s c = simp length-set c.loop-k.invariant.same_length

pub returns : goal.returns
returns c = st.shifted _ _ _ _ _ c.loop-k.invariant (omega arith)
