use borrow.Author.Rules.{rules}
use Rattle.text.proofs.TextLaws.{number_room, number_within}
use Rattle.lines.proofs.LineLaws.{no_pair_yet, one_more_pair, all_pairs}
use Rattle.lines.proofs.form_line.Goals as goal

pub put_number-len-requires : goal.put_number-len-requires
put_number-len-requires c = number_room _ _ _ (search rules) (search rules)

pub loop-pair-init : goal.loop-pair-init
loop-pair-init c = (number_within _ _ (search rules) c.put_number-len.ensures.size, no_pair_yet _ _ (search rules))

pub loop-pair-preserved : goal.loop-pair-preserved
loop-pair-preserved c = (search rules, one_more_pair _ c.loop-pair.pair-index c.loop-pair-test.true c.loop-pair.invariant.1 c.put_byte-next.ensures c.put_pair-len.ensures.put)

pub returns : goal.returns
returns c = all_pairs _ c.args.form.now c.loop-pair.pair-index c.min-shown.ensures c.loop-pair-test.false c.put_number-len.ensures c.loop-pair.invariant.1 c.put_byte.ensures
