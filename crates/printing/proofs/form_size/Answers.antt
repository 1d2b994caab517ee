use Rattle.text.proofs.TextLaws.{taken_length}
use borrow.Author.Rules.{rules}
use Rattle.printing.proofs.form_size.Goals as goal

pub slice_bounds-form_size-end : goal.slice_bounds-form_size-end
slice_bounds-form_size-end c = taken_length c.args.nodes (search rules)
