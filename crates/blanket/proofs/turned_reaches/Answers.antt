use native.Mathlib.Omega.{arith}
use mathlib.Core.Path.{refl}
use Rattle.scan.proofs.ScanLaws.{front_length}
use Rattle.blanket.proofs.ReachLaws as l
use Rattle.blanket.proofs.turned_reaches.Goals as goal

pub returns-then-nodes-leaf : goal.returns-then-nodes-leaf
returns-then-nodes-leaf c = l.inner_told c.requires.0 c.requires.1 c.if-nodes-leaf.true

pub slice_bounds-turn-end : goal.slice_bounds-turn-end
slice_bounds-turn-end c = front_length _ _ (omega (arith, c.requires.0.few, c.requires.0.all_nodes))

pub turn-unmoved-requires : goal.turn-unmoved-requires
turn-unmoved-requires c = (c.requires.0.is_tree, l.is_leaf c.requires.0 c.requires.1 c.if-nodes-leaf.false)

pub list_places-count-requires : goal.list_places-count-requires
list_places-count-requires c = (l.turned_input c.requires.0 c.requires.1 c.turn-unmoved.ensures, refl)

pub slice_bounds-turned-end-2 : goal.slice_bounds-turned-end-2
slice_bounds-turned-end-2 c = omega (arith, l.array_length c.requires.0 c.requires.1 c.turn-unmoved.ensures, c.requires.0.few)

pub slice_bounds-leaf_reaches-end : goal.slice_bounds-leaf_reaches-end
slice_bounds-leaf_reaches-end c = front_length _ _ (omega (arith, l.array_length c.requires.0 c.requires.1 c.turn-unmoved.ensures, c.requires.0.few))

pub slice_bounds-leaf_reaches-end-2 : goal.slice_bounds-leaf_reaches-end-2
slice_bounds-leaf_reaches-end-2 c = front_length _ _ (omega (arith, c.list_places-count.ensures.few))

pub leaf_reaches-requires : goal.leaf_reaches-requires
leaf_reaches-requires c = l.turned_leaf_input c.requires.0 c.requires.1 c.turn-unmoved.ensures c.list_places-count.ensures

pub returns : goal.returns
returns c = l.turned_told c.requires.0 c.requires.1 c.turn-unmoved.ensures c.leaf_reaches.result c.leaf_reaches.ensures
