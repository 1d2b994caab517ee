use Rattle.places.proofs.BelowLaws as b
use Rattle.places.proofs.place_last.Goals as goal

pub place_below-requires : goal.place_below-requires
place_below-requires c = b.below_input c.requires c.if-before-x.true
