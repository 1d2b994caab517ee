use mathlib.Core.Path.{◌≡◌}
use mathlib.Core.Logic.{◌≢◌}
use Prim.Native.Nat.{◌≤◌}
use lib.ListN.{length}
use Rattle.fleet.proofs.FleetCheck as fc
use Rattle.fleet.proofs.is_fleet.Given as goal

abbrev pub invariant-loop-pair : goal.invariant-loop-pair
invariant-loop-pair l = (l.pair-index ≤ length l.pairs) × ((length l.pairs ≢ 0) × ((length l.families ≡ 16) × fc.Checked l.pairs l.pair-index l.reader l.families))
