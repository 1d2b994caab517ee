use native.Mathlib.Omega.{arith}
use Rattle.fleet.proofs.TellsLaws.{told_yes, told_no}
use Rattle.remarks.proofs.WalkLaws as l
use Rattle.remarks.proofs.take_out.Goals.{then-not-is_remark, else-not-is_remark}
use Rattle.remarks.proofs.take_out.Goals as goal

pub loop-i-init : goal.loop-i-init
loop-i-init c = l.none_moved _

pub loop-i-preserved : goal.loop-i-preserved
loop-i-preserved c = elim c.if-not-is_remark.branch [
  | then-not-is_remark w ↦ l.turn_stays c.loop-i.invariant c.loop-i-test.true (told_no c.is_remark.result c.is_remark.ensures w.if-not-is_remark.true) w.pairs-is w.len-is
  | else-not-is_remark w ↦ l.turn_goes c.loop-i.invariant c.loop-i-test.true (told_yes c.is_remark.result c.is_remark.ensures w.if-not-is_remark.false) w.pairs-is w.len-is
]

pub returns : goal.returns
returns c = let t = l.all_moved c.loop-i.invariant (omega (arith, c.loop-i-test.false, c.loop-i.invariant.as_long)) in record { value = t.count; pairs_after = t.are }
