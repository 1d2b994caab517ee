use Rattle.std.proofs.Common.{rules}
use Rattle.text.proofs.TextLaws.{taken_length}
use Rattle.sheet_to_text.proofs.ConvertLaws.{told_as, nodes_within, refused_sheet, text_printed}
use Rattle.sheet_to_text.proofs.convert.Goals as goal

pub slice_bounds-pairs-end : goal.slice_bounds-pairs-end
slice_bounds-pairs-end c = nodes_within (told_as _ _ (search rules) (c.read-read.ensures.value, c.read-read.ensures.output_after)) c.in-Done.is

pub slice_bounds-print-end : goal.slice_bounds-print-end
slice_bounds-print-end c = taken_length _ (nodes_within (told_as _ _ (search rules) (c.read-read.ensures.value, c.read-read.ensures.output_after)) c.in-Done.is)

pub returns-in-Refused : goal.returns-in-Refused
returns-in-Refused c =
    let z = refused_sheet _ (told_as _ _ (search rules) (c.read-read.ensures.value, c.read-read.ensures.output_after)) c.in-Refused.is in
    record { value = z.0; text_after = z.1.0; text_within = z.1.1 }

pub returns-in-Done : goal.returns-in-Done
returns-in-Done c =
    let z = text_printed _ (search rules) (told_as _ _ (search rules) (c.read-read.ensures.value, c.read-read.ensures.output_after)) c.in-Done.is (c.print.ensures.value, c.print.ensures.output_after) in
    record { value = z.0; text_after = z.1.0; text_within = z.1.1 }
