use Prim.Native.Nat.{◌-◌}
use lib.ListN.{length}
use Rattle.matching.proofs.ScanLaws as s
use Rattle.matching.proofs.next_child.Given as goal

abbrev pub invariant-loop-place : goal.invariant-loop-place
invariant-loop-place l = s.ScanInv l.tree l.sizes l.image l.last l.pair l.least l.size l.place

abbrev pub decreases-loop-place : goal.decreases-loop-place
decreases-loop-place l = length l.tree - l.place
