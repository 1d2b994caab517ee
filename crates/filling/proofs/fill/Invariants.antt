use Prim.Native.Nat.{◌-◌}
use lib.ListN.{length}
use Rattle.expansion.specs.Levels.{tables}
use Rattle.search.specs.Search.{pairs_of}
use Rattle.listing.specs.Listing.{asks}
use Rattle.filling.proofs.FillLaws as laws
use Rattle.filling.proofs.fill.Given as goal

abbrev pub invariant-loop-given : goal.invariant-loop-given
invariant-loop-given l = laws.Filling (asks l.fleet l.request) (pairs_of l.initial.pattern) l.initial.output l.initial.found l.pattern l.at l.given l.output l.found (tables l.parents l.numbers l.sizes l.places l.lens l.counts l.known)

abbrev pub decreases-loop-given : goal.decreases-loop-given
decreases-loop-given l = length l.found - l.given
