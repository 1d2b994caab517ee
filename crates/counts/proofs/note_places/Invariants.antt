use Rattle.counts.proofs.CountLaws as laws
use Rattle.counts.proofs.note_places.Given as goal

abbrev pub invariant-loop-place : goal.invariant-loop-place
invariant-loop-place l = laws.GatheringTo l.pattern l.fleet l.parents l.numbers l.sizes l.places l.initial.counts l.initial.last l.heaviest l.equal l.seen l.counts l.last l.place-index
