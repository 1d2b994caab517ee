use Rattle.swap.proofs.OneTree as l
use Rattle.std.proofs.lemmas.Bool.{not_from_false, not_from_true}
use Rattle.swap.proofs.is_vehicle.Goals as goal

pub returns-then-not-is_fleet : goal.returns-then-not-is_fleet
returns-then-not-is_fleet c = l.no_vehicle _ _ c.is_fleet.ensures (not_from_false _ c.if-not-is_fleet.true)

pub returns : goal.returns
returns c = l.one_vehicle _ _ c.is_fleet.ensures _ (not_from_true _ c.if-not-is_fleet.false) c.tree_end.ensures
