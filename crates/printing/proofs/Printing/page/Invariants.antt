use Prim.Native.Nat.{◌-◌}
use Rattle.expansion.specs.Levels.{tables}
use Rattle.printing.proofs.PageLaws as laws
use Rattle.printing.proofs.Printing.page.Given as goal

abbrev pub invariant-loop-page : goal.invariant-loop-page
invariant-loop-page l = laws.Laying l.initial.printing l.fleet l.initial.page l.printing l.used l.page (tables l.parents l.numbers l.sizes l.places l.lens l.counts l.known)

abbrev pub decreases-loop-page : goal.decreases-loop-page
decreases-loop-page l = 54 - l.used
