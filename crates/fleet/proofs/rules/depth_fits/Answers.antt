use Rattle.fleet.proofs.TellsLaws as tl
use Rattle.fleet.proofs.rules.depth_fits.Goals as goal

pub returns-then-nodes-eq0 : goal.returns-then-nodes-eq0
returns-then-nodes-eq0 c = let a = c.args in tl.fits_first a.nodes a.deeper a.depth c.if-depth-gt-DEPTH.false c.if-nodes-eq0.true

pub returns : goal.returns
returns c = let a = c.args in tl.fits_later a.nodes a.deeper a.depth c.if-depth-gt-DEPTH.false c.if-nodes-eq0.false
