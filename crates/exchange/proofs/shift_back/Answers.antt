use mathlib.Core.Path.{◌≡◌}
use Prim.Native.Nat.{◌+◌, ◌-◌}
use lib.ListN.{length-set}
use native.Mathlib.Omega.{arith}
use Rattle.exchange.proofs.ShiftBackSteps as st
use Rattle.exchange.proofs.shift_back.Goals as goal

pub loop-k-init : goal.loop-k-init
loop-k-init c = let h = c.requires in st.begun _ _ _ h.0 h.1

pub loop-k-preserved : goal.loop-k-preserved
loop-k-preserved c = let l = c.loop-k in let z : l.k - 1 + 1 ≡ l.k = omega arith in rw z (st.one_more _ l.s _ _ l.k l.invariant (omega arith))

pub shape_of-s : goal.shape_of-s
shape_of-s c = simp length-set c.loop-k.invariant.same_length

pub returns : goal.returns
returns c = st.shifted _ _ _ _ _ c.loop-k.invariant (omega arith)
