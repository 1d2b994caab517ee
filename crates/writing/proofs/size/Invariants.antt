use Prim.Native.Nat.{◌≤◌, ◌*◌}
use lib.ListN.{length}
use Rattle.writing.proofs.WriteSteps as wl
use Rattle.writing.proofs.size.Given as goal

abbrev pub invariant-loop-x : goal.invariant-loop-x
invariant-loop-x l = (l.x-index ≤ length l.pairs) × ((l.size ≤ 4 * l.x-index) × wl.WrittenTo l.pairs l.x-index l.size l.previous)
