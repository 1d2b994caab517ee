use Rattle.additions.proofs.AddLaws as laws
use Rattle.additions.proofs.note_places.Given as goal

abbrev pub invariant-loop-place : goal.invariant-loop-place
invariant-loop-place l = laws.AddedTo l.pattern l.fleet l.parents l.numbers l.sizes l.places l.own l.initial.counts l.initial.last l.seen l.counts l.last l.need l.most l.place-index
