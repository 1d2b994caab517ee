use native.Mathlib.Omega.{arith}
use Rattle.noting.proofs.NoteLaws as n
use Rattle.leftover.proofs.LeftoverLaws as l
use Rattle.leftover.proofs.note_place.Goals as goal

pub bounds-seen-depth : goal.bounds-seen-depth
bounds-seen-depth c = omega (arith, n.place_depth c.requires.0.at)

pub loop-seen-init : goal.loop-seen-init
loop-seen-init c = l.levels_start c.requires

pub bounds-seen-level : goal.bounds-seen-level
bounds-seen-level c = n.level_small c.loop-seen.invariant.to

pub bounds-seen-level-in-loop-seen : goal.bounds-seen-level-in-loop-seen
bounds-seen-level-in-loop-seen c = n.level_small c.loop-seen.invariant.to

pub note_children-largest-requires : goal.note_children-largest-requires
note_children-largest-requires c = l.children_to_note c.loop-seen.invariant

pub offset_bounds-parents-d : goal.offset_bounds-parents-d
offset_bounds-parents-d c = omega (arith, n.place_inside c.loop-seen.invariant.to, c.loop-seen.invariant.to.input.is_fleet.nodes)

pub bounds-parents-d : goal.bounds-parents-d
bounds-parents-d c = omega (arith, n.place_inside c.loop-seen.invariant.to, c.loop-seen.invariant.to.input.is_fleet.nodes)

pub loop-seen-preserved : goal.loop-seen-preserved
loop-seen-preserved c = l.levels_again c.loop-seen.invariant c.note_children-largest.ensures.all_noted c.note_children-largest.ensures.most c.if-level-eq0.false

pub returns-then-seen-depth-clause-place_noted : goal.returns-then-seen-depth-clause-place_noted
returns-then-seen-depth-clause-place_noted c = n.place_passed c.requires.0.at c.if-depth-gt0.true c.if-sizes-place-eq0.true c.if-seen-depth.true

pub returns-then-level-eq0-clause-place_noted : goal.returns-then-level-eq0-clause-place_noted
returns-then-level-eq0-clause-place_noted c = n.place_root c.loop-seen.invariant.to c.note_children-largest.ensures.all_noted c.if-level-eq0.true

pub returns-clause-place_noted : goal.returns-clause-place_noted
returns-clause-place_noted c = n.place_seen c.loop-seen.invariant.to c.loop-seen-test.false
