use Rattle.fleet.proofs.TellsLaws as tl
use Rattle.fleet.proofs.rules.family_fits.Goals as goal

pub returns-then-depth-eq0 : goal.returns-then-depth-eq0
returns-then-depth-eq0 c = let a = c.args in tl.family_of_root a.families.now a.depth a.label c.if-depth-eq0.true

pub returns : goal.returns
returns c = let a = c.args in tl.family_below c.may_stand_under.result a.families.now a.depth a.label c.if-depth-eq0.false c.may_stand_under.ensures
