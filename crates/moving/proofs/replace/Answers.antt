use mathlib.Core.Path.{refl}
use Rattle.moving.proofs.MoveLaws as l
use Rattle.moving.proofs.replace.Goals as goal

pub returns : goal.returns
returns c = l.replaced _ _ _ _ _ _ _ _ c.requires c.move_pairs.ensures refl c.copy.ensures
