use borrow.Author.Rules.{rules}
use Rattle.paper.proofs.PutLaws.{no_field_yet, one_more_field}
use Rattle.paper.proofs.put_fields.Goals as goal

pub loop-pair-init : goal.loop-pair-init
loop-pair-init c = (search rules, no_field_yet _ _ (search rules))

pub loop-pair-preserved : goal.loop-pair-preserved
loop-pair-preserved c = (search rules, one_more_field _ c.loop-pair.pair-index (search rules) (search rules) c.loop-pair.invariant.1 c.put_pair-blanks.ensures.put c.put_blanks-end.ensures.put)
