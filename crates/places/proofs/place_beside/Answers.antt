use Rattle.places.proofs.PlaceLastLaws as l
use Rattle.places.proofs.GroupLaws as g
use Rattle.places.proofs.place_beside.Goals as goal
use Rattle.places.proofs.place_beside.Goals.{then-place-last, else-place-last}

pub overflow_sub-level : goal.overflow_sub-level
overflow_sub-level c = l.depth_from_1 c.requires

pub bounds-branch-level : goal.bounds-branch-level
bounds-branch-level c = l.level_few c.requires

pub equal_children-equal-requires : goal.equal_children-equal-requires
equal_children-equal-requires c = (l.new_child c.requires c.branch_of-branch.ensures, (l.pattern_input c.requires).few)

pub keep_groups-requires : goal.keep_groups-requires
keep_groups-requires c = (g.keep_input c.requires (l.new_child c.requires c.branch_of-branch.ensures) c.if-pair-x.true, c.requires.room)

pub returns-then-pair-x : goal.returns-then-pair-x
returns-then-pair-x c = g.groups_end c.requires (l.new_child c.requires c.branch_of-branch.ensures) c.if-pair-x.true c.equal_children-equal.ensures.0 c.keep_groups.ensures

pub leaves_only-leaves-requires : goal.leaves_only-leaves-requires
leaves_only-leaves-requires c = (l.new_child c.requires c.branch_of-branch.ensures, (l.pattern_input c.requires).few)

pub overflow_sub-steps : goal.overflow_sub-steps
overflow_sub-steps c = l.steps_fit c.requires

pub loop-old_place-init : goal.loop-old_place-init
loop-old_place-init c = l.last_start c.requires c.branch_of-branch.ensures c.equal_children-equal.ensures.0 c.leaves_only-leaves.ensures

pub climb-place-requires : goal.climb-place-requires
climb-place-requires c = l.climb_input c.loop-old_place.invariant c.loop-old_place-test.true

pub put_kids-len-requires : goal.put_kids-len-requires
put_kids-len-requires c = (l.kids_input c.loop-old_place.invariant c.loop-old_place-test.true c.climb-place.ensures c.if-place-last.true, l.put_input c.loop-old_place.invariant c.loop-old_place-test.true c.climb-place.ensures c.if-place-last.true)

pub loop-old_place-preserved : goal.loop-old_place-preserved
loop-old_place-preserved c = elim c.if-place-last.branch [
  | then-place-last w ↦ rw (w.new-is, w.last-is, w.len-is) (l.last_more c.loop-old_place.invariant c.loop-old_place-test.true c.climb-place.ensures w.if-place-last.true w.put_kids-len.ensures)
  | else-place-last w ↦ rw (w.new-is, w.last-is, w.len-is) (l.last_again c.loop-old_place.invariant c.loop-old_place-test.true c.climb-place.ensures w.if-place-last.false)
]

pub returns : goal.returns
returns c = l.last_end c.loop-old_place.invariant c.loop-old_place-test.false
