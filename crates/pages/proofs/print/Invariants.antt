use Rattle.expansion.specs.Levels.{tables}
use Rattle.pages.proofs.PrintLaws as laws
use Rattle.pages.proofs.print.Given as goal

abbrev pub invariant-loop-page : goal.invariant-loop-page
invariant-loop-page l = laws.PagesPut l.initial.printing l.fleet l.page l.printing l.initial.output l.output (tables l.parents l.numbers l.sizes l.places l.lens l.counts l.known)
