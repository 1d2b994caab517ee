use Rattle.matching.proofs.FitsLaws.{fits_tells}
use Rattle.matching.proofs.OccursAtLaws as l
use Rattle.matching.proofs.occurs_at.Goals as goal

pub returns-then-pattern-tree : goal.returns-then-pattern-tree
returns-then-pattern-tree c = l.other_label _ _ _ c.requires.0 c.if-pattern-tree.true

pub fits-requires : goal.fits-requires
fits-requires c = (l.fits_root_input _ _ _ c.requires.0 c.requires.2 c.if-pattern-tree.false, c.requires.1)

pub returns : goal.returns
returns c = l.occurs_at_tells _ _ _ c.fits.result c.requires.0 c.requires.2 (fits_tells c.fits.ensures)
