use Rattle.fleet.proofs.TellsLaws.{told_yes, told_no}
use Rattle.groups.proofs.GroupSteps as l
use Rattle.groups.proofs.keep_groups.Goals as goal

pub loop-i-init : goal.loop-i-init
loop-i-init c = l.kept_start _ c.requires.0 c.requires.1

pub loop-i-preserved-then-more_siblings : goal.loop-i-preserved-then-more_siblings
loop-i-preserved-then-more_siblings c = l.kept_more c.loop-i.invariant c.group_end-end.ensures (told_yes c.more_siblings.result c.more_siblings.ensures c.if-more_siblings.true) c.put_part-len.ensures

pub loop-i-preserved : goal.loop-i-preserved
loop-i-preserved c = l.kept_less c.loop-i.invariant c.group_end-end.ensures (l.no_more (told_no c.more_siblings.result c.more_siblings.ensures c.if-more_siblings.false))
