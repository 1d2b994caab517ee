use mathlib.Core.Path.{refl}
use native.Mathlib.Omega.{arith}
use Rattle.fleet.proofs.FleetCheck as fc
use Rattle.fleet.proofs.is_fleet.Goals as goal

pub returns-then-pairs-eq0 : goal.returns-then-pairs-eq0
returns-then-pairs-eq0 c = fc.empty_no _ (omega arith)

pub loop-pair-init : goal.loop-pair-init
loop-pair-init c = (omega arith, ((λ z. c.if-pairs-eq0.false z), (refl, fc.checked_first _ _ _ (c.new-reader.ensures _))))

pub broken-requires : goal.broken-requires
broken-requires c = c.family_table-table.ensures

pub returns-then-broken-gt0 : goal.returns-then-broken-gt0
returns-then-broken-gt0 c = fc.checked_no c.args.pairs.now c.loop-pair.pair-index c.loop-pair.reader c.loop-pair.families c.broken.result (omega arith) c.loop-pair.invariant.1.1.1 c.broken.ensures.by_index (omega (arith, c.if-broken-gt0.true))

pub after-reader-requires : goal.after-reader-requires
after-reader-requires c = c.broken.ensures.may_come (omega arith)

pub note_family-requires : goal.note_family-requires
note_family-requires c = let may = c.broken.ensures.may_come (omega arith) in (may.depth_fits.1.1, may.label_to_999)

pub loop-pair-preserved : goal.loop-pair-preserved
loop-pair-preserved c = (omega arith, (c.loop-pair.invariant.1.0, fc.checked_turn c.args.pairs.now c.loop-pair.pair-index c.loop-pair.reader c.loop-pair.families c.broken.result (omega arith) c.loop-pair.invariant.1.1.1 c.broken.ensures.by_index (omega arith) c.loop-pair.invariant.1.1.0 _ _ c.after-reader.ensures c.note_family.ensures))

pub returns : goal.returns
returns c = fc.checked_all c.args.pairs.now c.loop-pair.pair-index c.loop-pair.reader c.loop-pair.families c.loop-pair.invariant.1.0 (omega arith) c.loop-pair.invariant.1.1.1
