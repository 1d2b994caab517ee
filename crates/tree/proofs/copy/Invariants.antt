use Rattle.std.proofs.Common.{◌≡◌, ◌≤◌, ◌++◌, take, drop, length}
use Rattle.tree.proofs.copy.Given as goal

abbrev pub invariant-loop-i : goal.invariant-loop-i
invariant-loop-i l = (l.i ≤ length l.pairs) × (length l.output ≡ length l.initial.output) × (l.output ≡ take l.i l.pairs ++ drop l.i l.initial.output)
