use mathlib.Core.Path.{◌≡◌}
use mathlib.Core.List.{◌++◌}
use Prim.Native.Nat.{◌≤◌}
use lib.ListN.{length, take, drop}
use Rattle.writing.specs.Writing.{writing}
use Rattle.writing.proofs.WriteSteps as wl
use Rattle.writing.proofs.fill.Given as goal

abbrev pub invariant-loop-x : goal.invariant-loop-x
invariant-loop-x l = (l.x-index ≤ length l.pairs) × ((length l.output ≡ length l.initial.output) × ((l.output ≡ writing (take l.x-index l.pairs) ++ drop l.at l.initial.output) × wl.WrittenTo l.pairs l.x-index l.at l.previous))
