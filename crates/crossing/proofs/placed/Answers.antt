use mathlib.Core.Path.{sym, ap}
use Rattle.crossing.specs.Number.{placement_answer}
use Rattle.crossing.proofs.placed.Goals as goal

pub returns-in-Placed : goal.returns-in-Placed
unfolding placement_answer
returns-in-Placed c = sym (ap placement_answer c.in-Placed.is)

pub returns-in-Nowhere : goal.returns-in-Nowhere
unfolding placement_answer
returns-in-Nowhere c = sym (ap placement_answer c.in-Nowhere.is)

pub returns-in-Refused : goal.returns-in-Refused
unfolding placement_answer
returns-in-Refused c = sym (ap placement_answer c.in-Refused.is)
