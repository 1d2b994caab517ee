use native.Mathlib.Omega.{arith}
use mathlib.Core.Path.{refl}
use Rattle.rightmost.proofs.UpLaws.{up_inside}
use Rattle.leftover.proofs.LeftoverLaws.{most_after}
use Rattle.new_root.proofs.NewRootLaws as l
use Rattle.new_root.proofs.note_above.Goals as goal

pub offset_bounds-fleet-node : goal.offset_bounds-fleet-node
offset_bounds-fleet-node c = omega (arith, up_inside c.climb-node.ensures c.requires.0.inside, c.requires.0.is_fleet.nodes)

pub bounds-fleet-node : goal.bounds-fleet-node
bounds-fleet-node c = up_inside c.climb-node.ensures c.requires.0.inside

pub note-requires : goal.note-requires
note-requires c = l.above_room c.requires.0 c.climb-node.ensures

pub bounds-counts-label : goal.bounds-counts-label
bounds-counts-label c = omega (arith, c.note.ensures.some.all_counts, (l.above_room c.requires.0 c.climb-node.ensures).in_counts _ refl)

pub returns-then-fleet-place-clause-all_noted : goal.returns-then-fleet-place-clause-all_noted
returns-then-fleet-place-clause-all_noted c = l.none_above c.requires.0 c.if-fleet-place.true

pub returns-clause-all_noted : goal.returns-clause-all_noted
returns-clause-all_noted c = l.above_noted c.requires.0 c.climb-node.ensures c.note.ensures

pub returns-clause-most : goal.returns-clause-most
returns-clause-most c = most_after c.requires.1 c.note.ensures c.max.ensures
