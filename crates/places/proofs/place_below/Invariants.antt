use Rattle.places.proofs.BelowLaws as laws
use Rattle.places.proofs.place_below.Given as goal

abbrev pub invariant-loop-old_place : goal.invariant-loop-old_place
invariant-loop-old_place l = laws.BelowTo l.before l.x l.fleet l.sizes l.old l.initial.new l.step l.new l.len l.old_place-index
