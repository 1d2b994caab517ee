use Rattle.fleet.proofs.State.new.Goals as goal

pub returns : goal.returns
returns c = c.new.ensures _
