use Rattle.std.proofs.Common.{rules}
use Rattle.text.proofs.TextLaws.{number_room, number_within}
use Rattle.text_to_sheet.proofs.ConvertLaws.{no_pair_said, too_long_said, refusal_said}
use Rattle.text_to_sheet.proofs.complaint.Goals as goal

pub put_number-place-requires : goal.put_number-place-requires
put_number-place-requires c = number_room _ _ _ (search rules) (search rules)

pub put_bytes-requires : goal.put_bytes-requires
put_bytes-requires c = let d = number_within _ _ (search rules) c.put_number-place.ensures.size in search rules

pub returns-then-cause-eq-NO_PAIR : goal.returns-then-cause-eq-NO_PAIR
returns-then-cause-eq-NO_PAIR c = no_pair_said c.args.line c.args.cause c.put_bytes-word.ensures c.put_number-place.ensures c.if-cause-eq-NO_PAIR.true c.put_bytes.ensures

pub put_bytes-requires-then-cause-eq-TOO_LONG : goal.put_bytes-requires-then-cause-eq-TOO_LONG
put_bytes-requires-then-cause-eq-TOO_LONG c = let d = number_within _ _ (search rules) c.put_number-place.ensures.size in search rules

pub returns-then-cause-eq-TOO_LONG : goal.returns-then-cause-eq-TOO_LONG
returns-then-cause-eq-TOO_LONG c = too_long_said c.args.line c.args.cause c.put_bytes-word.ensures c.put_number-place.ensures c.if-cause-eq-NO_PAIR.false c.if-cause-eq-TOO_LONG.true c.put_bytes-then-cause-eq-TOO_LONG.ensures

pub put_bytes-refused-requires : goal.put_bytes-refused-requires
put_bytes-refused-requires c = let d = number_within _ _ (search rules) c.put_number-place.ensures.size in search rules

pub put_number-numbered-requires : goal.put_number-numbered-requires
put_number-numbered-requires c = let d = number_within _ _ (search rules) c.put_number-place.ensures.size in number_room _ _ _ (search rules) (search rules)

pub put_byte-requires : goal.put_byte-requires
put_byte-requires c = let d = number_within _ _ (search rules) c.put_number-place.ensures.size in let e = number_within _ _ (search rules) c.put_number-numbered.ensures.size in search rules

pub returns : goal.returns
returns c = refusal_said c.args.line c.args.cause c.put_bytes-word.ensures c.put_number-place.ensures c.if-cause-eq-NO_PAIR.false c.if-cause-eq-TOO_LONG.false c.put_bytes-refused.ensures c.put_number-numbered.ensures c.put_byte.ensures
