use Rattle.seats.proofs.PlaceBeside as laws
use Rattle.seats.proofs.seat.Given as goal

abbrev pub invariant-loop-child : goal.invariant-loop-child
invariant-loop-child l = laws.SeatTo l.before l.x l.node l.tree l.sizes l.image l.seats l.child
