use Rattle.supertrees.specs.Profile.{full}
use Rattle.key.proofs.request_by.Goals as goal

pub returns : goal.returns
returns c = λ i. record { threshold = c.byte_at.ensures i; bound = c.byte_at-2.ensures i; profile = full }
