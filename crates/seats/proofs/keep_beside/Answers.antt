use Rattle.groups.proofs.PutLaws as n
use Rattle.seats.proofs.PlaceBeside as l
use Rattle.seats.proofs.keep_beside.Goals as goal

pub overflow_add-stop : goal.overflow_add-stop
overflow_add-stop c = n.one_more (l.start_few c.requires.0 c.climb-start.ensures)

pub bounds-sizes-start : goal.bounds-sizes-start
bounds-sizes-start c = l.start_in c.requires.0 c.climb-start.ensures

pub overflow_add-stop-2 : goal.overflow_add-stop-2
overflow_add-stop-2 c = (l.start_jump c.requires.0 c.climb-start.ensures).1

pub offset_bounds-fleet-start : goal.offset_bounds-fleet-start
offset_bounds-fleet-start c = n.doubled (l.start_few c.requires.0 c.climb-start.ensures)

pub slice_bounds-tree-end : goal.slice_bounds-tree-end
slice_bounds-tree-end c = l.stop_in c.requires.0 (l.tree_at c.requires.0 c.climb-start.ensures)

pub overflow_sub-place : goal.overflow_sub-place
overflow_sub-place c = (l.tree_at c.requires.0 c.climb-start.ensures).from

pub keep_in_tree-requires : goal.keep_in_tree-requires
keep_in_tree-requires c = let t = l.tree_at c.requires.0 c.climb-start.ensures in (l.seat_in_tree c.requires.0 t, l.rise_from c.requires.0 t c.requires.1)

pub returns : goal.returns
returns c = l.kept_beside c.requires.0 (l.tree_at c.requires.0 c.climb-start.ensures) c.requires.1 c.keep_in_tree.ensures
