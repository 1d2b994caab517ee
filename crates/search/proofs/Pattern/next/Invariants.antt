use Rattle.expansion.specs.Levels.{tables_if}
use Rattle.search.specs.Sought.{search_in}
use Rattle.search.proofs.NextLaws as laws
use Rattle.search.proofs.Pattern.next.Given as goal

abbrev pub invariant-loop-len : goal.invariant-loop-len
invariant-loop-len l = laws.AtBeginning (search_in l.fleet l.fn.request) l.fn.self l.len l.low (tables_if l.kept l.parents l.numbers l.sizes l.places l.lens l.counts l.known)

abbrev pub decreases-loop-len : goal.decreases-loop-len
decreases-loop-len l = l.len
