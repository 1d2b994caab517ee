use mathlib.Core.Path.{refl}
use native.Mathlib.Omega.{arith}
use Prim.Native.Nat.{◌-◌}
use Rattle.sheet.proofs.ReadSteps as tu
use Rattle.sheet.proofs.reading.fill.Goals as goal

pub loop-at-init : goal.loop-at-init
loop-at-init c = (omega arith, (refl, tu.filling_first _ _ _ c.requires.0))

pub read_fields-fields-requires : goal.read_fields-fields-requires
read_fields-fields-requires c = tu.fields_within c.loop-at.invariant.1.1 c.loop-at-test.true

pub overflow_mul-output : goal.overflow_mul-output
overflow_mul-output c = omega (arith, (tu.turn_fits c.loop-at.invariant.1.1 c.loop-at-test.true c.read_fields-fields.result c.read_fields-fields.ensures c.requires.1).depth_to_15)

pub overflow_add-output : goal.overflow_add-output
overflow_add-output c = let fits = tu.turn_fits c.loop-at.invariant.1.1 c.loop-at-test.true c.read_fields-fields.result c.read_fields-fields.ensures c.requires.1 in omega (arith, fits.depth_to_15, fits.label_to_999)

pub offset_bounds-output-i : goal.offset_bounds-output-i
offset_bounds-output-i c = omega (arith, (tu.turn_fits c.loop-at.invariant.1.1 c.loop-at-test.true c.read_fields-fields.result c.read_fields-fields.ensures c.requires.1).room, c.loop-at.invariant.1.0)

pub bounds-output-i : goal.bounds-output-i
bounds-output-i c = omega (arith, (tu.turn_fits c.loop-at.invariant.1.1 c.loop-at-test.true c.read_fields-fields.result c.read_fields-fields.ensures c.requires.1).room, c.loop-at.invariant.1.0)

pub overflow_add-deeper : goal.overflow_add-deeper
overflow_add-deeper c = omega (arith, (tu.turn_fits c.loop-at.invariant.1.1 c.loop-at-test.true c.read_fields-fields.result c.read_fields-fields.ensures c.requires.1).depth_to_15)

pub overflow_add-i : goal.overflow_add-i
overflow_add-i c = omega (arith, (tu.turn_fits c.loop-at.invariant.1.1 c.loop-at-test.true c.read_fields-fields.result c.read_fields-fields.ensures c.requires.1).room, c.loop-at.invariant.1.0)

pub loop-at-smaller : goal.loop-at-smaller
loop-at-smaller c = let fits = tu.turn_fits c.loop-at.invariant.1.1 c.loop-at-test.true c.read_fields-fields.result c.read_fields-fields.ensures c.requires.1 in omega (arith, fits.onward, fits.within)

pub loop-at-preserved : goal.loop-at-preserved
loop-at-preserved c = tu.filling_turn c.loop-at.invariant.1.1 c.loop-at-test.true c.read_fields-fields.result c.read_fields-fields.ensures c.requires.1 c.loop-at.invariant.1.0

pub returns : goal.returns
returns c = tu.filled c.loop-at.invariant.1.1 c.loop-at-test.false
