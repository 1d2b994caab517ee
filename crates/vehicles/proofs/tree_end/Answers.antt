use Rattle.vehicles.proofs.StretchLaws as s
use Rattle.vehicles.proofs.tree_end.Goals as goal

pub returns-then-at-fleet : goal.returns-then-at-fleet
returns-then-at-fleet c = s.ends_nowhere _ _ c.if-at-fleet.true

pub returns-then-fleet-end-lt-UNIT : goal.returns-then-fleet-end-lt-UNIT
returns-then-fleet-end-lt-UNIT c = s.ends_here _ _ _ c.loop-end.invariant c.if-fleet-end-lt-UNIT.true
