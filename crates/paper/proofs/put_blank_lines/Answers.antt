use borrow.Author.Rules.{rules}
use Rattle.text.proofs.TextLaws.{put_length}
use Rattle.paper.proofs.PutLaws.{no_line_yet, one_more_line}
use Rattle.paper.proofs.put_blank_lines.Goals as goal

pub loop-init : goal.loop-init
loop-init c = (search rules, no_line_yet _ _ (search rules))

pub finish-end-requires : goal.finish-end-requires
finish-end-requires c = let e = put_length c.loop.invariant.1 in search rules

pub loop-preserved : goal.loop-preserved
loop-preserved c = (search rules, one_more_line c.loop.counter c.loop.invariant.1 c.finish-end.ensures.put)
