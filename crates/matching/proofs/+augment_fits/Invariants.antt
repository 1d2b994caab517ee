use Prim.Native.Nat.{◌-◌, ◌+◌, ◌*◌}
use lib.ListN.{length}
use Rattle.terms.specs.Assignment.{unvisited}
use Rattle.matching.proofs.FitsLaws as s
use Rattle.matching.proofs.+augment_fits.Given as goal

abbrev pub decreases-augment : goal.decreases-augment
decreases-augment l = (length l.pattern.now - (l.node + 1)) * 18 + 1 + unvisited l.visited.now

abbrev pub decreases-fits : goal.decreases-fits
decreases-fits l = (length l.pattern.now - l.node) * 18

abbrev pub invariant-augment-loop-place : goal.invariant-augment-loop-place
invariant-augment-loop-place l = s.AugmentInv l.pattern l.node l.child l.tree l.sizes l.image l.initial.places l.initial.visited l.pair l.size l.places l.visited l.place

abbrev pub decreases-augment-loop-place : goal.decreases-augment-loop-place
decreases-augment-loop-place l = length l.tree - l.place

abbrev pub invariant-fits-loop-child : goal.invariant-fits-loop-child
invariant-fits-loop-child l = s.FitsInv l.pattern l.node l.tree l.image l.deeper l.end l.places l.child
