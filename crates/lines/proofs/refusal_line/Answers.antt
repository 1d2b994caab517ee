use borrow.Author.Rules.{rules}
use Rattle.text.proofs.TextLaws.{number_room, number_within}
use Rattle.lines.proofs.LineLaws.{refusal_said}
use Rattle.lines.proofs.refusal_line.Goals as goal

pub put_number-numbered-requires : goal.put_number-numbered-requires
put_number-numbered-requires c = number_room _ _ _ (search rules) (search rules)

pub put_byte-requires : goal.put_byte-requires
put_byte-requires c = let d = number_within _ _ (search rules) c.put_number-numbered.ensures.size in search rules

pub returns : goal.returns
returns c = refusal_said _ c.put_bytes-word.ensures c.put_number-numbered.ensures c.put_byte.ensures
