use native.Mathlib.Omega.{arith}
use mathlib.Core.Path.{refl, sym, ◌∙◌}
use Rattle.scan.proofs.ScanLaws.{front_length}
use Rattle.turned_places.proofs.MakingLaws as l
use Rattle.turned_places.proofs.place_onward.Goals as goal

pub loop-k-init : goal.loop-k-init
loop-k-init c = (l.onward_start c.requires, refl)

pub offset_bounds-nodes-k : goal.offset_bounds-nodes-k
offset_bounds-nodes-k c = omega (arith, l.small c.loop-k.invariant.0 c.loop-k-test.true)

pub bounds-nodes-k : goal.bounds-nodes-k
bounds-nodes-k c = omega (arith, l.small c.loop-k.invariant.0 c.loop-k-test.true, c.loop-k.invariant.0.of.all_nodes)

pub slice_bounds-copy-end : goal.slice_bounds-copy-end
slice_bounds-copy-end c = l.in_list c.loop-k.invariant.0

pub slice_bounds-copy-end-in-loop-k : goal.slice_bounds-copy-end-in-loop-k
slice_bounds-copy-end-in-loop-k c = front_length _ _ (l.in_list c.loop-k.invariant.0)

pub slice_bounds-copy-end-in-loop-k-2 : goal.slice_bounds-copy-end-in-loop-k-2
slice_bounds-copy-end-in-loop-k-2 c = sym c.loop-k.invariant.1

pub copy-requires : goal.copy-requires
copy-requires c = omega (arith, front_length c.loop-k.known c.loop-k.list (l.in_list c.loop-k.invariant.0), c.loop-k.invariant.1, c.loop-k.invariant.0.made.few)

pub slice_bounds-nodes-end : goal.slice_bounds-nodes-end
slice_bounds-nodes-end c = omega (arith, l.small c.loop-k.invariant.0 c.loop-k-test.true, c.loop-k.invariant.0.of.all_nodes)

pub slice_bounds-place_last-end : goal.slice_bounds-place_last-end
slice_bounds-place_last-end c = front_length _ _ (omega (arith, l.small c.loop-k.invariant.0 c.loop-k-test.true, c.loop-k.invariant.0.of.all_nodes))

pub slice_bounds-old-end : goal.slice_bounds-old-end
slice_bounds-old-end c = omega (arith, c.loop-k.invariant.0.made.few)

pub slice_bounds-place_last-end-in-loop-k : goal.slice_bounds-place_last-end-in-loop-k
slice_bounds-place_last-end-in-loop-k c = front_length _ _ (omega (arith, c.loop-k.invariant.0.made.few))

pub place_last-known-requires : goal.place_last-known-requires
place_last-known-requires c = l.onward_input c.loop-k.invariant.0 c.loop-k-test.true _ c.copy.ensures (omega (arith, c.loop-k.invariant.0.all))

pub loop-k-preserved : goal.loop-k-preserved
loop-k-preserved c = (l.onward_next c.loop-k.invariant.0 c.loop-k-test.true (omega (arith, c.loop-k.invariant.0.all)) c.place_last-known.ensures, omega arith)

pub shape_of-list : goal.shape_of-list
shape_of-list c = c.loop-k.invariant.0.all ∙ sym c.requires.all

pub returns : goal.returns
returns c = l.onward_end c.loop-k.invariant.0 c.loop-k-test.false
