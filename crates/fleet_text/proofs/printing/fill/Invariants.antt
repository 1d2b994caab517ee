use Rattle.fleet_text.proofs.PrintLaws.{PrintedTo}
use Rattle.fleet_text.proofs.printing.fill.Given as goal

abbrev pub invariant-loop-before : goal.invariant-loop-before
invariant-loop-before l = PrintedTo l.pairs l.before l.initial.output l.output l.at
