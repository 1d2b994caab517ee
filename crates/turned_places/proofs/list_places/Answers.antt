use native.Mathlib.Omega.{arith}
use Rattle.turned_places.proofs.MakingLaws as l
use Rattle.turned_places.proofs.list_places.Goals as goal

pub place_root-requires : goal.place_root-requires
place_root-requires c = (l.root_tree c.requires.0 c.if-unmoved-eq0.true, c.requires.0.of.is_fleet, omega (arith, c.requires.1))

pub returns-then-unmoved-eq0 : goal.returns-then-unmoved-eq0
returns-then-unmoved-eq0 c = l.root_made c.requires.0 c.if-unmoved-eq0.true c.place_root.ensures

pub overflow_add-end : goal.overflow_add-end
overflow_add-end c = omega (arith, l.unmoved_few c.requires.0 c.if-unmoved-eq0.false, c.requires.0.fewer, c.requires.0.of.few)

pub slice_bounds-copy-end : goal.slice_bounds-copy-end
slice_bounds-copy-end c = l.unmoved_inside c.requires.0 c.if-unmoved-eq0.false

pub copy-requires : goal.copy-requires
copy-requires c = omega (arith, l.unmoved_few c.requires.0 c.if-unmoved-eq0.false, c.requires.1)

pub place_onward-requires : goal.place_onward-requires
place_onward-requires c = l.listed_input c.requires.0 c.if-unmoved-eq0.false _ c.copy.ensures (omega (arith, c.requires.1))
