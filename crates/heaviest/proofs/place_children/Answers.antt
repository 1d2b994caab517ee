use Rattle.heaviest.proofs.PlaceLaws as s
use Rattle.heaviest.proofs.place_children.Goals as goal

pub overflow_sub-image : goal.overflow_sub-image
overflow_sub-image c = s.image_number _ _ _ _ c.requires.0 c.requires.1 c.requires.2

pub fits-requires : goal.fits-requires
fits-requires c = (s.children_fits_input _ _ _ _ c.requires.0 c.requires.1 c.requires.2, c.requires.3)

pub raise_children-requires : goal.raise_children-requires
raise_children-requires c = (s.children_raise_input _ _ _ _ c.requires.0 c.requires.1 c.requires.2 _ _ c.fits.ensures, c.requires.3)

pub write_places-requires : goal.write_places-requires
write_places-requires c = s.children_write_input _ _ _ _ c.requires.0 c.requires.1 c.requires.2 _ c.raise_children.ensures

pub returns : goal.returns
returns c = (s.children_placed _ _ _ _ c.requires.0 c.requires.1 c.requires.2 _ c.raise_children.ensures _ c.write_places.ensures, c.write_places.ensures.kept)
