use mathlib.Core.Path.{refl}
use borrow.Author.Rules.{rules}
use Rattle.listing.proofs.StartStepLaws.{part_length}
use Rattle.filling.proofs.FillLaws as l
use Rattle.filling.proofs.put.Goals as goal

pub slice_bounds-copy-end : goal.slice_bounds-copy-end
slice_bounds-copy-end c = part_length _ _ c.requires.0 (search rules)

pub copy-requires : goal.copy-requires
copy-requires c = l.copy_room c.args.len c.args.nodes c.args.output.now c.args.at c.requires.0 (search rules) c.requires.1

pub returns : goal.returns
returns c = (refl, l.copied _ _ _ _ _ _ c.requires.0 (search rules) c.requires.1 refl c.copy.ensures)
