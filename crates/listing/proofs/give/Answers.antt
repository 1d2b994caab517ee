use borrow.Author.Rules.{rules}
use Rattle.listing.proofs.StartStepLaws as s
use Rattle.listing.proofs.give.Goals as goal

pub returns : goal.returns
returns c = s.given_form _ _ _ c.in-Some.is (search rules) (search rules) c.put.ensures

pub returns-in_default : goal.returns-in_default
returns-in_default c = s.given_end _ c.in_default.is
