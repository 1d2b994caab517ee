use Rattle.printing.proofs.AheadLaws as l
use Rattle.printing.proofs.Printing.begin.Goals as goal

pub empty-pattern-requires : goal.empty-pattern-requires
empty-pattern-requires c = tt

pub after-requires : goal.after-requires
after-requires c = l.begin_input c.requires c.empty-pattern.ensures

pub returns : goal.returns
returns c = record { fleet_value = l.begun c.requires c.empty-pattern.ensures.1 c.after.ensures.fleet_value; printing = c.after.ensures.printing }
