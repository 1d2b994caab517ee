use Rattle.std.proofs.Common.{◌≡◌, length}
use Rattle.expansion.specs.Levels.{tables}
use Rattle.paper.specs.Paper.{page_bytes}
use Rattle.printing.specs.Printing.{still_to_print}
use Rattle.pages_main.proofs.WritingLaws.{OnTheWay}
use Rattle.pages_main.proofs.write_pages.Given as goal

abbrev pub invariant-loop-places : goal.invariant-loop-places
invariant-loop-places g l = (length l.buffer ≡ page_bytes) × OnTheWay l.initial.printing l.printing l.fleet (tables l.parents l.numbers l.sizes l.places l.lens l.counts l.known) (g.W.Write.contents l.initial.out) (g.W.Write.contents l.out)

abbrev pub decreases-loop-places : goal.decreases-loop-places
decreases-loop-places g l = length (still_to_print l.printing l.fleet)
