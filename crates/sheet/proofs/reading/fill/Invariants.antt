use mathlib.Core.Path.{◌≡◌}
use Prim.Native.Nat.{◌≤◌, ◌-◌}
use lib.ListN.{length}
use Rattle.sheet.specs.Reading.{reading, pairs_said}
use Rattle.sheet.proofs.ReadSteps as tu
use Rattle.sheet.proofs.reading.fill.Given as goal

abbrev pub invariant-loop-at : goal.invariant-loop-at
invariant-loop-at l = (l.at ≤ length l.sheet) × ((length l.output ≡ length l.initial.output) × tu.Filling l.sheet (pairs_said (reading l.sheet)) l.initial.output l.output l.at l.deeper l.label l.i)

abbrev pub decreases-loop-at : goal.decreases-loop-at
decreases-loop-at l = length l.sheet - l.at
