use Rattle.text.proofs.TextLaws.{taken_length}
use Rattle.streams.proofs.InputLaws.{size_within}
use Rattle.text_to_sheet.proofs.main.Goals as goal

pub slice_bounds-input-end : goal.slice_bounds-input-end
slice_bounds-input-end c = size_within _ c.in-Ok.is c.read_input.ensures

pub slice_bounds-answer-end : goal.slice_bounds-answer-end
slice_bounds-answer-end c = taken_length _ (size_within _ c.in-Ok.is c.read_input.ensures)
