use mathlib.Core.Path.{refl}
use native.Mathlib.Omega.{arith}
use Rattle.scan.proofs.ScanLaws.{front_length}
use Rattle.pruning.proofs.PruningLaws as l
use Rattle.pruning.proofs.find_matched.Goals as goal

pub slice_bounds-matched_leaf-end : goal.slice_bounds-matched_leaf-end
slice_bounds-matched_leaf-end c = let i = c.requires in front_length _ _ (omega (arith, i.of.few, i.of.all_nodes))

pub slice_bounds-matched_leaf-end-2 : goal.slice_bounds-matched_leaf-end-2
slice_bounds-matched_leaf-end-2 c = front_length _ _ (omega (arith, c.list_places-count.ensures.few))

pub matched_leaf-requires : goal.matched_leaf-requires
matched_leaf-requires c = l.to_ask c.requires c.list_places-count.ensures

pub returns : goal.returns
returns c = (record { within = omega arith; is = c.in_ok-pair.ensures }, refl)
