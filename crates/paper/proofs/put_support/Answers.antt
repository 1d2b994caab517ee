use borrow.Author.Rules.{rules}
use Rattle.paper.proofs.PutLaws.{support_put, support_end}
use Rattle.paper.proofs.put_support.Goals as goal

pub returns : goal.returns
returns c = record { put = support_put _ c.digits.ensures (search rules) (search rules) (search rules) c.put_blanks-first.ensures.put c.put_number.ensures; value = support_end _ c.digits.ensures (search rules) (search rules) (search rules) c.put_blanks-first.ensures.put c.put_number.ensures }
