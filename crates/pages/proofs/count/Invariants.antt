use lib.ListN.{length}
use Rattle.expansion.specs.Levels.{tables}
use Rattle.printing.specs.Printing.{blocks_ahead}
use Rattle.pages.proofs.CountingLaws as laws
use Rattle.pages.proofs.count.Given as goal

abbrev pub invariant-loop-pages : goal.invariant-loop-pages
invariant-loop-pages l = laws.Counting l.initial.printing l.fleet l.printing l.pages l.used (tables l.parents l.numbers l.sizes l.places l.lens l.counts l.known)

abbrev pub decreases-loop-pages : goal.decreases-loop-pages
decreases-loop-pages l = length (blocks_ahead l.printing l.fleet)
