use borrow.Author.Rules.{rules}
use Rattle.paper.proofs.PutLaws.{size_one, size_two}
use Rattle.paper.proofs.form_size.Goals as goal

pub returns-then-form-gt-PAIRS : goal.returns-then-form-gt-PAIRS
returns-then-form-gt-PAIRS c = size_two _ (search rules)

pub returns-else-form-gt-PAIRS : goal.returns-else-form-gt-PAIRS
returns-else-form-gt-PAIRS c = size_one _ (search rules)
