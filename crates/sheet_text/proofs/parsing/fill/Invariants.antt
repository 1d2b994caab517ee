use mathlib.Core.Path.{◌≡◌}
use Prim.Native.Nat.{◌≤◌, ◌-◌}
use lib.ListN.{length}
use Rattle.sheet_text.proofs.FillLaws as fl
use Rattle.sheet_text.proofs.parsing.fill.Given as goal

abbrev pub invariant-loop-depth : goal.invariant-loop-depth
invariant-loop-depth l = (l.at ≤ length l.text) × ((length l.pairs ≡ length l.initial.pairs) × fl.Filling l.text l.initial.pairs l.pairs l.at l.nodes)

abbrev pub decreases-loop-depth : goal.decreases-loop-depth
decreases-loop-depth l = length l.text - l.at
