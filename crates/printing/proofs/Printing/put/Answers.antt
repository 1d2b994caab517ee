use Rattle.printing.proofs.AheadLaws as l
use borrow.Author.Rules.{rules}
use Rattle.printing.proofs.Printing.put.Goals as goal

pub put_form-requires : goal.put_form-requires
put_form-requires c = l.form_input c.args.self _ _ c.requires.0 c.in-Form.is c.requires.1

pub put_end-requires : goal.put_end-requires
put_end-requires c = l.end_input c.args.self _ _ c.in-EndLine.is c.requires.1

pub returns-in-Form : goal.returns-in-Form
returns-in-Form c = let z = l.put_block (l.form_ahead c.args.self c.in-Form.is) (c.put_form.ensures.put, c.put_form.ensures.value) in record { put = z.0; value = z.1 }

pub returns-in-EndLine : goal.returns-in-EndLine
returns-in-EndLine c = let z = l.put_block (l.end_ahead c.args.self c.in-EndLine.is) (c.put_end.ensures.put, c.put_end.ensures.value) in record { put = z.0; value = z.1 }

pub returns-in-Nothing : goal.returns-in-Nothing
returns-in-Nothing c = let z = l.put_block (l.nothing_ahead c.args.self c.in-Nothing.is) (l.nothing_put _ _ (search rules)) in record { put = z.0; value = z.1 }
