use mathlib.Core.Path.{◌≡◌}
use Rattle.seats.proofs.PlaceBeside as laws
use Rattle.seats.proofs.leave.Given as goal

abbrev pub invariant-loop-child : goal.invariant-loop-child
invariant-loop-child l = (l.full ≡ l.initial.seats) × laws.LeaveTo l.before l.node l.tree l.sizes l.image l.full l.seats l.stuck l.child
