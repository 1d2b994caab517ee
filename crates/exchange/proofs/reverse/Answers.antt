use native.Mathlib.Omega.{arith}
use lib.ListN.{length-set}
use Rattle.exchange.proofs.ReverseSteps as st
use Rattle.exchange.proofs.reverse.Goals as goal

pub loop-x-init : goal.loop-x-init
loop-x-init c = st.begun _ _ _ c.requires.0 c.requires.1

pub bounds-s-y-in-loop-x : goal.bounds-s-y-in-loop-x
bounds-s-y-in-loop-x c = simp length-set (omega arith)

pub loop-x-preserved : goal.loop-x-preserved
loop-x-preserved c = let l = c.loop-x in st.one_more _ l.s _ _ l.x l.y l.invariant (omega arith)

pub shape_of-s : goal.shape_of-s
shape_of-s c = c.loop-x.invariant.same_length

pub returns : goal.returns
returns c = st.reversed _ _ _ _ _ _ c.loop-x.invariant (omega arith)
