use borrow.Author.Rules.{rules}
use Rattle.fleet_text.proofs.PrintLaws.{printed_first, room_for, printed_next, end_room, printed_all}
use Rattle.fleet_text.proofs.printing.fill.Goals as goal

pub loop-before-init : goal.loop-before-init
loop-before-init c = printed_first c.args.pairs.now _

pub put_piece-at-requires : goal.put_piece-at-requires
put_piece-at-requires c = room_for _ c.loop-before.before c.loop-before.invariant (search rules) c.requires

pub loop-before-preserved : goal.loop-before-preserved
loop-before-preserved c = printed_next _ c.loop-before.before c.loop-before.invariant (search rules) c.put_piece-at.ensures

pub bounds-output-at : goal.bounds-output-at
bounds-output-at c = end_room _ c.loop-before.before c.loop-before.invariant (search rules) c.requires

pub returns : goal.returns
returns c = printed_all _ c.loop-before.before c.loop-before.invariant (search rules) c.requires
