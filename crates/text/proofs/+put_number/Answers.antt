use Rattle.std.proofs.Common.{sym, rules}
use Rattle.text.proofs.TextLaws.{one_digit, more_digits, digit_room, front_room, last_room, then_put, put_as}
use Rattle.text.proofs.+put_number.Goals as goal

pub put_byte-requires : goal.put_byte-requires
put_byte-requires t c = digit_room _ _ _ c.requires (search rules)

pub returns-then-n-lt10 : goal.returns-then-n-lt10
returns-then-n-lt10 t c = put_as (sym (one_digit _ (search rules))) c.put_byte.ensures

pub put_number-last-requires : goal.put_number-last-requires
put_number-last-requires t c = (search rules, front_room _ _ _ c.requires (search rules))

pub put_byte-requires-2 : goal.put_byte-requires-2
put_byte-requires-2 t c = last_room _ c.requires (search rules) c.put_number-last.ensures

pub returns : goal.returns
returns t c = put_as (sym (more_digits _ (search rules))) (then_put c.put_number-last.ensures c.put_byte-2.ensures)
