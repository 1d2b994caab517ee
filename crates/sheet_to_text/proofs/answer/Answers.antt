use Rattle.text.proofs.TextLaws.{taken_length}
use Rattle.sheet_to_text.proofs.ConvertLaws.{size_within}
use Rattle.sheet_to_text.proofs.answer.Goals as goal

pub slice_bounds-text-end : goal.slice_bounds-text-end
slice_bounds-text-end g c = size_within _ c.in-Done.is c.convert-converted.ensures.text_within

pub slice_bounds-write_all-end : goal.slice_bounds-write_all-end
slice_bounds-write_all-end g c = taken_length _ (size_within _ c.in-Done.is c.convert-converted.ensures.text_within)
