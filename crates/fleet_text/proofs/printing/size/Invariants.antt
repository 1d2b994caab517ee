use Prim.Native.Nat.{◌≤◌, ◌*◌}
use Rattle.fleet_text.proofs.PrintLaws.{CountedTo}
use Rattle.fleet_text.proofs.printing.size.Given as goal

abbrev pub invariant-loop-pair : goal.invariant-loop-pair
invariant-loop-pair l = (l.size ≤ 7 * l.pair-index) × CountedTo l.pairs l.pair-index l.size
