use borrow.Author.Rules.{rules}
use Rattle.fleet_text.proofs.PrintLaws.{counted_first, counted_next, counted_all}
use Rattle.fleet_text.proofs.printing.size.Goals as goal

pub loop-pair-init : goal.loop-pair-init
loop-pair-init c = (search rules, counted_first c.args.pairs.now)

pub loop-pair-preserved : goal.loop-pair-preserved
loop-pair-preserved c = (search rules, counted_next c.args.pairs.now c.loop-pair.pair-index c.loop-pair.size _ c.loop-pair.invariant.1 (search rules) c.pair_size.ensures.0)

pub returns : goal.returns
returns c = counted_all c.args.pairs.now c.loop-pair.pair-index c.loop-pair.size c.loop-pair.invariant.1 (search rules) c.requires
