use borrow.Author.Rules.{rules}
use Rattle.text.proofs.TextLaws.{five_bytes, six_bytes}
use Rattle.fleet_text.proofs.printing.pair_size.Goals as goal

pub returns-then-x : goal.returns-then-x
returns-then-x c = (five_bytes _ (search rules), search rules)

pub returns-else-x : goal.returns-else-x
returns-else-x c = (six_bytes _ (search rules) (search rules), search rules)
