use Rattle.text.proofs.TextLaws.{taken_length}
use Rattle.printing.proofs.AheadLaws as l
use borrow.Author.Rules.{rules}
use Rattle.printing.proofs.put_form.Goals as goal

pub slice_bounds-put_form-end : goal.slice_bounds-put_form-end
slice_bounds-put_form-end c = taken_length c.args.nodes (search rules)

pub put_form-requires : goal.put_form-requires
put_form-requires c = (c.requires.1, l.few_pairs c.args.nodes c.requires.0, c.requires.2)
