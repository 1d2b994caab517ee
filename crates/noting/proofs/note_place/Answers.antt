use mathlib.Core.Path.{◌∙◌}
use native.Mathlib.Omega.{arith}
use Rattle.noting.proofs.NoteLaws as n
use Rattle.noting.proofs.note_place.Goals as goal

pub bounds-sizes-place : goal.bounds-sizes-place
bounds-sizes-place c = n.place_few c.requires.at

pub overflow_sub-depth : goal.overflow_sub-depth
overflow_sub-depth c = c.if-depth-gt0.true

pub offset_bounds-seen-depth : goal.offset_bounds-seen-depth
offset_bounds-seen-depth c = omega (arith, n.place_depth c.requires.at)

pub bounds-seen-depth : goal.bounds-seen-depth
bounds-seen-depth c = omega (arith, n.place_depth c.requires.at)

pub offset_bounds-parents-place : goal.offset_bounds-parents-place
offset_bounds-parents-place c = omega (arith, n.place_few c.requires.at)

pub bounds-parents-place : goal.bounds-parents-place
bounds-parents-place c = n.place_few c.requires.at

pub overflow_cast-parents : goal.overflow_cast-parents
overflow_cast-parents c = omega (arith, (n.leaf_parent c.requires.at c.if-depth-gt0.true).before, n.place_few c.requires.at)

pub returns-then-seen-depth : goal.returns-then-seen-depth
returns-then-seen-depth c = n.place_passed c.requires.at c.if-depth-gt0.true c.if-sizes-place-eq0.true c.if-seen-depth.true

pub bounds-fleet-place : goal.bounds-fleet-place
bounds-fleet-place c = c.requires.at.inside

pub overflow_cast-above : goal.overflow_cast-above
overflow_cast-above c = omega (arith, n.place_depth c.requires.at)

pub overflow_sub-above : goal.overflow_sub-above
overflow_sub-above c = c.requires.at.no_deeper

pub overflow_mul-above : goal.overflow_mul-above
overflow_mul-above c = omega (arith, n.node_small c.requires.at.is_fleet c.requires.at.inside)

pub loop-seen-init : goal.loop-seen-init
loop-seen-init c = n.place_start c.requires.at

pub offset_bounds-seen-level : goal.offset_bounds-seen-level
offset_bounds-seen-level c = omega (arith, n.level_small c.loop-seen.invariant)

pub bounds-seen-level : goal.bounds-seen-level
bounds-seen-level c = n.level_small c.loop-seen.invariant

pub offset_bounds-seen-level-in-loop-seen : goal.offset_bounds-seen-level-in-loop-seen
offset_bounds-seen-level-in-loop-seen c = omega (arith, n.level_small c.loop-seen.invariant)

pub bounds-seen-level-in-loop-seen : goal.bounds-seen-level-in-loop-seen
bounds-seen-level-in-loop-seen c = n.level_small c.loop-seen.invariant

pub offset_bounds-heaviest-level : goal.offset_bounds-heaviest-level
offset_bounds-heaviest-level c = omega (arith, n.level_small c.loop-seen.invariant)

pub bounds-heaviest-level : goal.bounds-heaviest-level
bounds-heaviest-level c = n.level_small c.loop-seen.invariant

pub bounds-equal-level : goal.bounds-equal-level
bounds-equal-level c = n.level_small c.loop-seen.invariant

pub limit_at-limit-requires : goal.limit_at-limit-requires
limit_at-limit-requires c = n.limit_at_input c.requires c.loop-seen.invariant

pub note_children-requires : goal.note_children-requires
note_children-requires c = n.limit_children c.loop-seen.invariant c.limit_at-limit.ensures

pub shape_of-counts-then-level-eq0 : goal.shape_of-counts-then-level-eq0
shape_of-counts-then-level-eq0 c = c.note_children.ensures.some.all_counts ∙ c.loop-seen.invariant.some.all_counts

pub shape_of-last-then-level-eq0 : goal.shape_of-last-then-level-eq0
shape_of-last-then-level-eq0 c = c.note_children.ensures.some.all_last ∙ c.loop-seen.invariant.some.all_last

pub returns-then-level-eq0 : goal.returns-then-level-eq0
returns-then-level-eq0 c = n.place_root c.loop-seen.invariant (n.limit_noted c.loop-seen.invariant c.limit_at-limit.ensures c.note_children.ensures) c.if-level-eq0.true

pub offset_bounds-parents-d : goal.offset_bounds-parents-d
offset_bounds-parents-d c = omega (arith, n.place_inside c.loop-seen.invariant, c.loop-seen.invariant.input.is_fleet.nodes)

pub bounds-parents-d : goal.bounds-parents-d
bounds-parents-d c = omega (arith, n.place_inside c.loop-seen.invariant, c.loop-seen.invariant.input.is_fleet.nodes)

pub overflow_cast-d : goal.overflow_cast-d
overflow_cast-d c = omega (arith, (n.parent_above c.loop-seen.invariant c.if-level-eq0.false).before, n.place_inside c.loop-seen.invariant, c.loop-seen.invariant.input.is_fleet.nodes)

pub loop-seen-preserved : goal.loop-seen-preserved
loop-seen-preserved c = n.place_again c.loop-seen.invariant (n.limit_noted c.loop-seen.invariant c.limit_at-limit.ensures c.note_children.ensures) c.if-level-eq0.false

pub shape_of-counts : goal.shape_of-counts
shape_of-counts c = c.loop-seen.invariant.some.all_counts

pub shape_of-last : goal.shape_of-last
shape_of-last c = c.loop-seen.invariant.some.all_last

pub returns : goal.returns
returns c = n.place_seen c.loop-seen.invariant c.loop-seen-test.false
