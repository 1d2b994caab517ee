use native.Mathlib.Omega.{arith}
use Rattle.terms.proofs.FamilyLaws as mk
use Rattle.fleet.proofs.TellsLaws as tl
use Rattle.fleet.proofs.rules.may_stand_under.Goals as goal
use Rattle.fleet.proofs.rules.may_stand_under.Goals.{then-below-ge10-via-then-below-ge10, then-below-ge10-via-else-below-ge10+then-above-ge10}

pub returns-then-below-ge10 : goal.returns-then-below-ge10
returns-then-below-ge10 c = elim c.then-below-ge10.branch [ then-below-ge10-via-then-below-ge10 w ↦ mk.no_row c.args.below c.args.above (omega (arith, w.if-below-ge10.true)) | then-below-ge10-via-else-below-ge10+then-above-ge10 w ↦ mk.no_column c.args.below c.args.above (omega (arith, w.if-above-ge10.true)) ]

pub returns : goal.returns
returns c = tl.marked c.args.table.now c.args.below c.args.above c.requires
