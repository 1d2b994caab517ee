use Rattle.moving.proofs.MoveLaws as law
use Rattle.moving.proofs.move_down.Given as goal

abbrev pub invariant-loop-i : goal.invariant-loop-i
invariant-loop-i l = law.Down l.initial.buffer l.buffer l.from l.to l.count l.i
