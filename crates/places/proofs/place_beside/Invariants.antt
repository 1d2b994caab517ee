use Rattle.places.proofs.PlaceLastLaws as laws
use Rattle.places.proofs.place_beside.Given as goal

abbrev pub invariant-loop-old_place : goal.invariant-loop-old_place
invariant-loop-old_place l = laws.LastTo l.before l.x l.fleet l.parents l.sizes l.old l.initial.new l.node l.equal l.leaves l.steps l.new l.last l.len l.old_place-index
