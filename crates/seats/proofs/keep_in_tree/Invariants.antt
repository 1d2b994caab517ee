use Rattle.seats.proofs.PlaceBeside as laws
use Rattle.seats.proofs.keep_in_tree.Given as goal

abbrev pub invariant-loop-i : goal.invariant-loop-i
invariant-loop-i l = laws.KeepTo l.before l.x l.node l.tree l.sizes l.start l.image l.initial.list l.len l.end l.list l.seats l.kept l.i
