use lib.Seq.{length-take-le}
use Rattle.register.specs.Register.{most_label}
use Rattle.register.proofs.TreeLaws as l
use Rattle.register.proofs.trees.clear.Goals as goal

pub returns : goal.returns
returns c = l.cleared c.requires (length-take-le most_label _ c.requires.0) (c.fill.ensures.after (λ y h. h)) (length-take-le most_label _ c.requires.1) (c.fill-2.ensures.after (λ y h. h))
