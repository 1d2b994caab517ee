use native.Mathlib.Omega.{arith}
use Rattle.counts.proofs.CountLaws as l
use Rattle.counts.proofs.gather_by.Goals as goal

pub note_places-requires : goal.note_places-requires
note_places-requires g c = l.places_to_note g.row.SIZE c.requires.0 c.top.ensures c.clear.ensures (omega (arith, c.top.ensures, c.requires.1))
