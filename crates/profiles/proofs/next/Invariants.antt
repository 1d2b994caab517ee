use Rattle.expansion.specs.Levels.{tables_if}
use Rattle.search.specs.Sought.{search_in}
use Rattle.pruning.specs.Pruning.{MatchedBeginning}
use Rattle.profiles.proofs.WalkLaws as laws
use Rattle.profiles.proofs.next.Given as goal

abbrev pub invariant-loop-found : goal.invariant-loop-found
invariant-loop-found l = laws.Walking (search_in l.fleet l.request) l.fn.given l.pattern (tables_if l.kept l.parents l.numbers l.sizes l.places l.lens l.counts l.known) × MatchedBeginning l.fleet l.pattern.nodes l.pattern.len l.matched

abbrev pub decreases-loop-found : goal.decreases-loop-found
decreases-loop-found l = laws.left_after (search_in l.fleet l.request) l.pattern
