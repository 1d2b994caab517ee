use mathlib.Core.Path.{refl}
use Rattle.matching.specs.FitsSteps.{unmeasured}
use Rattle.matching.proofs.FitsLaws.{counted}
use Rattle.matching.proofs.least_size.Goals as goal

pub returns-then-sizes-eq0 : goal.returns-then-sizes-eq0
returns-then-sizes-eq0 c = unmeasured refl

pub returns : goal.returns
returns c = counted c.if-sizes-eq0.false c.subtree_end.ensures
