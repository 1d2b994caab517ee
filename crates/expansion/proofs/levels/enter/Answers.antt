use native.Mathlib.Omega.{arith}
use Rattle.scan.proofs.ScanLaws.{front_length}
use Rattle.expansion.proofs.LevelPlaces as l
use Rattle.expansion.proofs.levels.enter.Goals as goal

pub place_root-requires : goal.place_root-requires
place_root-requires c = (l.root_tree c.requires c.if-len-eq1.true, c.requires.is_fleet, omega (arith, c.requires.all_places, c.requires.room))

pub returns-then-len-eq1 : goal.returns-then-len-eq1
returns-then-len-eq1 c = l.root_made c.requires c.place_root.new.places c.if-len-eq1.true c.place_root.auto.places c.place_root.ensures

pub overflow_add-end : goal.overflow_add-end
overflow_add-end c = omega (arith, l.before_few c.requires c.if-len-eq1.false)

pub slice_bounds-copy-end : goal.slice_bounds-copy-end
slice_bounds-copy-end c = omega (arith, l.before_few c.requires c.if-len-eq1.false, c.requires.all_places, c.requires.room)

pub copy-requires : goal.copy-requires
copy-requires c = omega (arith, l.before_few c.requires c.if-len-eq1.false)

pub slice_bounds-place_last-end : goal.slice_bounds-place_last-end
slice_bounds-place_last-end c = front_length _ _ (omega (arith, c.requires.all_nodes, c.requires.room))

pub slice_bounds-old-end : goal.slice_bounds-old-end
slice_bounds-old-end c = omega (arith, l.before_few c.requires c.if-len-eq1.false)

pub slice_bounds-place_last-end-2 : goal.slice_bounds-place_last-end-2
slice_bounds-place_last-end-2 c = front_length _ _ (omega (arith, l.before_few c.requires c.if-len-eq1.false))

pub place_last-requires : goal.place_last-requires
place_last-requires c = l.last_input c.requires c.if-len-eq1.false _ c.copy.ensures (omega arith)

pub returns : goal.returns
returns c = l.last_made c.requires c.place_last.new.new c.if-len-eq1.false c.place_last.auto.new c.place_last.ensures
