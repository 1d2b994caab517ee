use Prim.Native.Nat.{◌-◌}
use Rattle.heaviest.proofs.RaiseLaws as s
use Rattle.heaviest.proofs.raise.Given as goal

abbrev pub invariant-loop-place : goal.invariant-loop-place
invariant-loop-place l = s.RaiseInv l.pattern l.node l.child l.tree l.image l.initial.places l.fixed l.pair l.old l.places (l.place - 1)
