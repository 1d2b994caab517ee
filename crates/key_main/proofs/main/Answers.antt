use Rattle.text.proofs.TextLaws.{taken_length}
use Rattle.streams.proofs.InputLaws.{size_within}
use Rattle.key_main.proofs.main.Goals as goal

pub slice_bounds-input-end : goal.slice_bounds-input-end
slice_bounds-input-end c = size_within _ c.in-Ok.is c.read_input.ensures.within

pub slice_bounds-list-end : goal.slice_bounds-list-end
slice_bounds-list-end c = taken_length _ (size_within _ c.in-Ok.is c.read_input.ensures.within)
