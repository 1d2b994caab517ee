use mathlib.Core.Path.{refl}
use Rattle.terms.specs.Fleet.{marks}
use Rattle.fleet.proofs.rules.family_table.Goals as goal

pub returns : goal.returns
unfolding marks
returns c = refl
