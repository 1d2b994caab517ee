use borrow.Author.Rules.{rules}
use Rattle.paper.proofs.PutLaws.{first_put}
use Rattle.paper.proofs.put_first.Goals as goal

pub returns : goal.returns
returns c = record { put = first_put _ _ (search rules) c.put_support-support.ensures.put c.put_byte-field.ensures c.put_fields-end.ensures.put c.finish.ensures.put; value = search rules }
