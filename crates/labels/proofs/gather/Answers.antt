use native.Mathlib.Omega.{arith}
use Rattle.labels.proofs.gather.Goals as goal

pub from_sets-requires : goal.from_sets-requires
from_sets-requires c = (c.requires.0, omega (arith, c.if-holders-gt0.true), c.requires.1, c.requires.3)
