use borrow.Author.Rules.{rules}
use Rattle.pruning.proofs.PruningLaws as l
use Rattle.pruning.proofs.covers.Goals as goal

pub returns-in_default : goal.returns-in_default
returns-in_default c = rw c.in_default.is (λ covers. covers)

pub returns : goal.returns
returns c = rw c.in-Some.is (l.lacks_behind _ _ _ _ (search rules) _ (rw c.min.ensures at c.contains.ensures.cases))
