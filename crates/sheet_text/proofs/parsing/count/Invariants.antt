use Prim.Native.Nat.{◌≤◌, ◌-◌, ◌+◌}
use lib.ListN.{length}
use Rattle.sheet_text.proofs.ReadingLaws as tr
use Rattle.sheet_text.proofs.parsing.count.Given as goal

abbrev pub invariant-loop-next : goal.invariant-loop-next
invariant-loop-next l = (length l.text ≤ 65536) × ((l.at ≤ length l.text) × ((l.line ≤ l.at + 1) × ((l.nodes ≤ l.at) × tr.Between l.text l.at l.line l.first l.nodes l.state)))

abbrev pub decreases-loop-next : goal.decreases-loop-next
decreases-loop-next l = length l.text - l.at
