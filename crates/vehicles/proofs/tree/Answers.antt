use native.Mathlib.Omega.{arith}
use Rattle.vehicles.proofs.StartLaws as l
use Rattle.vehicles.proofs.tree.Goals as goal

pub offset_bounds-fleet-from : goal.offset_bounds-fleet-from
offset_bounds-fleet-from c = let part = l.part_of _ _ _ _ c.tree_start-from.ensures c.tree_end-end.ensures in omega (arith, part.0, part.1)

pub slice_bounds-result-count : goal.slice_bounds-result-count
slice_bounds-result-count c = let part = l.part_of _ _ _ _ c.tree_start-from.ensures c.tree_end-end.ensures in omega (arith, part.0, part.1)

pub slice_bounds-result-start : goal.slice_bounds-result-start
slice_bounds-result-start c = let part = l.part_of _ _ _ _ c.tree_start-from.ensures c.tree_end-end.ensures in omega (arith, part.0, part.1)

pub slice_bounds-result-end : goal.slice_bounds-result-end
slice_bounds-result-end c = let part = l.part_of _ _ _ _ c.tree_start-from.ensures c.tree_end-end.ensures in omega (arith, part.0, part.1)

pub returns : goal.returns
returns c = l.tree_found _ _ _ _ c.tree_start-from.ensures c.tree_end-end.ensures
