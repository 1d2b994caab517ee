use borrow.Author.Rules.{rules}
use native.Mathlib.Omega.{arith}
use lib.ListN.{length-take}
use Rattle.text.proofs.TextLaws.{taken_length}
use Rattle.lines.proofs.LineLaws.{whole_line}
use Rattle.run.proofs.put_form.Goals as goal

pub slice_bounds-form_line-end : goal.slice_bounds-form_line-end
slice_bounds-form_line-end c = taken_length c.args.nodes (search rules)

pub returns : goal.returns
returns c = whole_line _ _ (omega (arith, length-take c.args.len c.args.nodes)) c.form_line.ensures
