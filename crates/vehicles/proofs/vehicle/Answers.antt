use Rattle.vehicles.proofs.StretchLaws as s
use Rattle.vehicles.proofs.vehicle.Goals as goal

pub returns-then-tree-eq0 : goal.returns-then-tree-eq0
returns-then-tree-eq0 c = s.vehicle_16 _ _ c.is_fleet.result c.is_fleet.ensures _ c.if-is_fleet.true c.tree-tree.ensures c.if-tree-eq0.true

pub returns-then-is_fleet : goal.returns-then-is_fleet
returns-then-is_fleet c = s.vehicle_done _ _ c.is_fleet.result c.is_fleet.ensures _ c.if-is_fleet.true c.tree-tree.ensures c.if-tree-eq0.false

pub returns : goal.returns
returns c = s.vehicle_10 _ _ c.is_fleet.result c.is_fleet.ensures c.if-is_fleet.false
