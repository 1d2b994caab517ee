use borrow.Author.Rules.{rules}
use Rattle.paper.proofs.PutLaws.{end_put}
use Rattle.paper.proofs.put_end.Goals as goal

pub returns : goal.returns
returns c = record { put = end_put (search rules) c.put_bytes-word.ensures c.finish.ensures.put; value = search rules }
