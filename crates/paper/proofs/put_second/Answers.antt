use borrow.Author.Rules.{rules}
use Rattle.paper.proofs.PutLaws.{second_put}
use Rattle.paper.proofs.put_second.Goals as goal

pub returns : goal.returns
returns c = record { put = second_put _ (search rules) c.put_blanks-field.ensures.put c.put_fields-end.ensures.put c.finish.ensures.put; value = search rules }
