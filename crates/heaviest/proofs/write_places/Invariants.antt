use Rattle.heaviest.proofs.PlaceLaws as s
use Rattle.heaviest.proofs.write_places.Given as goal

abbrev pub invariant-loop-node : goal.invariant-loop-node
invariant-loop-node l = s.WrittenBefore l.places l.nodes l.initial.output l.output l.node
