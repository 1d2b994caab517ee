use mathlib.Core.Path.{refl}
use native.Mathlib.Omega.{arith}
use Prim.Native.Nat.{◌-◌}
use Rattle.sheet.proofs.ReadSteps as tu
use Rattle.sheet.proofs.reading.count.Goals as goal

pub loop-at-init : goal.loop-at-init
loop-at-init c = (omega arith, (refl, tu.reading_first _ _ _ (c.new-reader.ensures _)))

pub judge-judged-requires : goal.judge-judged-requires
judge-judged-requires c = (c.family_table-table.ensures, omega arith)

pub returns-then-judged-gt0 : goal.returns-then-judged-gt0
returns-then-judged-gt0 c = tu.counted_wrong c.args.sheet.now c.loop-at.at c.loop-at.reader c.loop-at.families c.loop-at.invariant.1.1 c.judge-judged.result c.judge-judged.ensures c.if-judged-gt0.true

pub after-reader-requires : goal.after-reader-requires
after-reader-requires c = (c.judge-judged.ensures.1 (omega arith)).0

pub note_family-requires : goal.note_family-requires
note_family-requires c = let may = (c.judge-judged.ensures.1 (omega arith)).0 in (may.depth_fits.1.1, may.label_to_999)

pub loop-at-smaller : goal.loop-at-smaller
loop-at-smaller c = let m = (c.judge-judged.ensures.1 (omega arith)).1 in let a = m.0 in let b = m.1 in omega arith

pub loop-at-preserved : goal.loop-at-preserved
loop-at-preserved c = ((c.judge-judged.ensures.1 (omega arith)).1.1, tu.reading_turn c.args.sheet.now c.loop-at.at c.loop-at.reader c.loop-at.families c.loop-at.invariant.1.1 c.judge-judged.result c.judge-judged.ensures (omega arith) c.loop-at.invariant.1.0 _ _ c.after-reader.ensures c.note_family.ensures)

pub returns-then-reader-eq0 : goal.returns-then-reader-eq0
returns-then-reader-eq0 c = tu.counted_none c.args.sheet.now c.loop-at.at c.loop-at.reader c.loop-at.families c.loop-at.invariant.1.1 (omega arith) (omega arith)

pub returns : goal.returns
returns c = tu.counted_all c.args.sheet.now c.loop-at.at c.loop-at.reader c.loop-at.families c.loop-at.invariant.1.1 (omega arith) c.if-reader-eq0.false
