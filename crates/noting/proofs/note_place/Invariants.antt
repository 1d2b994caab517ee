use Rattle.noting.specs.Noting.{PassesAt}
use Rattle.noting.proofs.NoteLaws as n
use Rattle.noting.proofs.note_place.Given as goal

abbrev pub invariant-loop-seen : goal.invariant-loop-seen
invariant-loop-seen l = n.PlaceTo (PassesAt l.fleet l.heaviest l.equal) l.fleet l.parents l.sizes l.place l.depth l.vehicle l.initial.seen l.initial.counts l.initial.last l.seen l.counts l.last l.d l.level

abbrev pub decreases-loop-seen : goal.decreases-loop-seen
decreases-loop-seen l = l.level
