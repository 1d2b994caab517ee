use Rattle.sets.proofs.SetLaws as l
use Rattle.sets.proofs.member.Goals as goal

pub returns : goal.returns
returns c = l.member_told c.args.vehicle c.args.set
