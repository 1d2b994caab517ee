use Rattle.text.proofs.TextLaws.{taken_length}
use Rattle.text_to_sheet.proofs.ConvertLaws.{size_within}
use Rattle.text_to_sheet.proofs.answer.Goals as goal

pub slice_bounds-sheet-end : goal.slice_bounds-sheet-end
slice_bounds-sheet-end g c = size_within _ c.in-Sheet.is c.convert-converted.ensures.sheet_within

pub slice_bounds-write_all-end : goal.slice_bounds-write_all-end
slice_bounds-write_all-end g c = taken_length _ (size_within _ c.in-Sheet.is c.convert-converted.ensures.sheet_within)
