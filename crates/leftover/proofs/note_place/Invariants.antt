use Rattle.leftover.proofs.LeftoverLaws as laws
use Rattle.leftover.proofs.note_place.Given as goal

abbrev pub invariant-loop-seen : goal.invariant-loop-seen
invariant-loop-seen l = laws.LevelsTo l.fleet l.parents l.sizes l.own l.place l.depth l.vehicle l.initial.seen l.initial.counts l.initial.last l.seen l.counts l.last l.largest l.d l.level

abbrev pub decreases-loop-seen : goal.decreases-loop-seen
decreases-loop-seen l = l.level
