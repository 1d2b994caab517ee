use Rattle.printing.proofs.AheadLaws as l
use Rattle.printing.proofs.Printing.found.Goals as goal

pub returns-in-Some : goal.returns-in-Some
returns-in-Some c = l.found_form _ c.in-Some.is

pub returns-in-None : goal.returns-in-None
returns-in-None c = l.found_end _ c.in-None.is
