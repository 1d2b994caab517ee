use Rattle.seats.proofs.PlaceBeside as l
use Rattle.seats.proofs.can_leave.Goals as goal

pub returns : goal.returns
returns c = l.left c.requires.0 c.requires.1 c.augment.ensures
