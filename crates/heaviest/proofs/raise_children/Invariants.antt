use Rattle.heaviest.proofs.PlaceLaws as s
use Rattle.heaviest.proofs.raise_children.Given as goal

abbrev pub invariant-loop-child : goal.invariant-loop-child
invariant-loop-child l = s.RaisedBefore l.pattern l.node l.tree l.image l.deeper l.end l.places l.fixed l.child
