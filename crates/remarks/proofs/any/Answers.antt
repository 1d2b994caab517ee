use Rattle.fleet.proofs.TellsLaws.{told_yes, told_no}
use Rattle.remarks.proofs.WalkLaws as l
use Rattle.remarks.proofs.any.Goals.{then-is_remark, else-is_remark}
use Rattle.remarks.proofs.any.Goals as goal

pub loop-pair-preserved : goal.loop-pair-preserved
loop-pair-preserved c = elim c.if-is_remark.branch [
  | then-is_remark w ↦ rw w.found-is (l.one_met c.loop-pair.invariant c.loop-pair-test.true (told_yes c.is_remark.result c.is_remark.ensures w.if-is_remark.true))
  | else-is_remark w ↦ rw w.found-is (l.none_here c.loop-pair.found c.loop-pair.invariant c.loop-pair-test.true (told_no c.is_remark.result c.is_remark.ensures w.if-is_remark.false))
]
