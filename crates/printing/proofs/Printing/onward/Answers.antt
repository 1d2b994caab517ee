use Rattle.printing.proofs.AheadLaws as l
use Rattle.printing.proofs.Printing.onward.Goals as goal

pub returns-in_default : goal.returns-in_default
returns-in_default c = l.onward_ended c.requires c.in_default.not-Form

pub after-requires : goal.after-requires
after-requires c = l.ready_form c.requires c.in-Form.is

pub returns : goal.returns
returns c = l.onward_found c.requires c.in-Form.is (c.after.ensures.fleet_value, c.after.ensures.printing)
