use Rattle.run.proofs.StepLaws.{form_said, end_said}
use Rattle.run.proofs.Run.found.Goals as goal

pub returns-in-Some : goal.returns-in-Some
returns-in-Some c = form_said c.in-Some.is c.put_form-len.ensures c.at-run.ensures

pub returns-in-None : goal.returns-in-None
returns-in-None c = end_said c.in-None.is c.end_line-len.ensures c.at-run-in-None.ensures
