use lib.Seq.{take_at}
use mathlib.Core.Path.{refl}
use Rattle.search.proofs.array_of.Goals as goal

pub returns : goal.returns
returns c = rw c.copy_from_slice.ensures.after (take_at c.args.pairs.now _ _ refl)
