use mathlib.Core.Path.{refl}
use Rattle.sets.proofs.with.Goals as goal

pub returns : goal.returns
returns c = rw c.bit.ensures refl
