use mathlib.Core.Path.{refl}
use Rattle.matching.proofs.least_below.Goals as goal

pub returns : goal.returns
returns c = refl
