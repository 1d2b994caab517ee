use Rattle.std.proofs.Common.{rules}
use Rattle.text.proofs.TextLaws.{taken_length}
use Rattle.text_to_sheet.proofs.ConvertLaws.{told_as, nodes_within, wrong_text, sheet_written, not_refused}
use Rattle.text_to_sheet.proofs.convert.Goals as goal

pub slice_bounds-pairs-end : goal.slice_bounds-pairs-end
slice_bounds-pairs-end c = nodes_within (told_as _ _ (search rules) (c.parse-parsed.ensures.value, c.parse-parsed.ensures.pairs_after)) c.in-Pairs.is

pub slice_bounds-write-end : goal.slice_bounds-write-end
slice_bounds-write-end c = taken_length _ (nodes_within (told_as _ _ (search rules) (c.parse-parsed.ensures.value, c.parse-parsed.ensures.pairs_after)) c.in-Pairs.is)

pub returns-in-Refused : goal.returns-in-Refused
returns-in-Refused c =
    let z = wrong_text _ (told_as _ _ (search rules) (c.parse-parsed.ensures.value, c.parse-parsed.ensures.pairs_after)) c.in-Refused.is in
    record { value = z.0; sheet_after = z.1.0; sheet_within = z.1.1 }

pub returns-in-Done : goal.returns-in-Done
returns-in-Done c =
    let z = sheet_written _ (search rules) (told_as _ _ (search rules) (c.parse-parsed.ensures.value, c.parse-parsed.ensures.pairs_after)) c.in-Pairs.is (c.write-written.ensures.value, c.write-written.ensures.output_after) c.in-Done.is in
    record { value = z.0; sheet_after = z.1.0; sheet_within = z.1.1 }

pub returns-in-Refused-written : goal.returns-in-Refused-written
returns-in-Refused-written c = absurd (not_refused _ (search rules) (told_as _ _ (search rules) (c.parse-parsed.ensures.value, c.parse-parsed.ensures.pairs_after)) c.in-Pairs.is (c.write-written.ensures.value, c.write-written.ensures.output_after) c.in-Refused-written.is)
