use Rattle.opening.proofs.RequestLaws.{nodes_none, nodes_some}
use Rattle.opening.proofs.nodes_read.Goals as goal

pub returns-in-Refused : goal.returns-in-Refused
returns-in-Refused c = nodes_none c.in-Refused.is

pub returns-in-Done : goal.returns-in-Done
returns-in-Done c = nodes_some c.in-Done.is
