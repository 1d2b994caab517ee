use Prim.Native.Nat.{◌<◌}
use Rattle.new_root.proofs.NewRootLaws as laws
use Rattle.new_root.proofs.root_reaches.Given as goal

abbrev pub invariant-loop-place : goal.invariant-loop-place
invariant-loop-place l = (l.most < l.need) × laws.RootsTo l.pattern l.need l.fleet l.parents l.numbers l.places l.counts l.last l.most l.place-index
