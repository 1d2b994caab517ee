use native.Mathlib.Omega.{arith}
use mathlib.Core.Path.{refl}
use mathlib.Core.Logic.{inl}
use Rattle.fleet.proofs.TellsLaws.{told_yes, told_no}
use Rattle.scan.proofs.ScanLaws.{front_length}
use Rattle.blanket.proofs.ReachLaws as l
use Rattle.blanket.proofs.first_reaches.Goals as goal

pub overflow_sub-unmoved : goal.overflow_sub-unmoved
overflow_sub-unmoved c = l.some_pairs c.requires

pub list_places-count-requires : goal.list_places-count-requires
list_places-count-requires c = (l.first_input c.requires, refl)

pub slice_bounds-pattern-end : goal.slice_bounds-pattern-end
slice_bounds-pattern-end c = front_length _ _ (omega (arith, c.requires.few, c.requires.all_nodes))

pub slice_bounds-found-end : goal.slice_bounds-found-end
slice_bounds-found-end c = front_length _ _ (omega (arith, c.list_places-count.ensures.few))

pub leaf_reaches-requires : goal.leaf_reaches-requires
leaf_reaches-requires c = l.leaf_input c.requires c.list_places-count.ensures

pub returns-then-leaf_reaches : goal.returns-then-leaf_reaches
returns-then-leaf_reaches c = inl (told_yes c.leaf_reaches.result c.leaf_reaches.ensures c.if-leaf_reaches.true)

pub root_reaches-requires : goal.root_reaches-requires
root_reaches-requires c = l.root_input c.requires c.list_places-count.ensures

pub returns : goal.returns
returns c = l.first_none c.requires c.root_reaches.result (told_no c.leaf_reaches.result c.leaf_reaches.ensures c.if-leaf_reaches.false) c.root_reaches.ensures
