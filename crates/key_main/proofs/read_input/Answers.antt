use mathlib.Core.Path.{◌∙◌}
use Rattle.key_main.proofs.read_input.Goals as goal

pub returns : goal.returns
returns g c = record { within = c.read.ensures.within; input_len = c.read.auto.buffer ∙ c.told-input }
