use Rattle.run.proofs.StepLaws.{begun_refused, begun_listing}
use Rattle.run.proofs.Run.begin.Goals as goal

pub returns-in-Refused : goal.returns-in-Refused
returns-in-Refused c = begun_refused c.in-Refused.is c.empty-pattern.ensures

pub returns-in-Done : goal.returns-in-Done
returns-in-Done c = begun_listing c.in-Done.is c.empty-pattern.ensures
