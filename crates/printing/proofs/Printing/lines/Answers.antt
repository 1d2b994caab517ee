use mathlib.Core.Path.{◌∙◌, ap}
use lib.ListN.{length}
use Rattle.printing.proofs.AheadLaws as l
use Rattle.printing.proofs.Printing.lines.Goals as goal

pub returns-in-Form : goal.returns-in-Form
returns-in-Form c = c.form_size.ensures _ ∙ ap length (l.form_ahead c.args.self c.in-Form.is)

pub returns-in-EndLine : goal.returns-in-EndLine
returns-in-EndLine c = ap length (l.end_ahead c.args.self c.in-EndLine.is)

pub returns-in-Nothing : goal.returns-in-Nothing
returns-in-Nothing c = ap length (l.nothing_ahead c.args.self c.in-Nothing.is)
