use Rattle.fleet.proofs.TellsLaws.{told_yes, told_no}
use Rattle.sheet_text.proofs.ReadingLaws as tr
use Rattle.sheet_text.proofs.parsing.join.Goals as goal

pub returns-then-root_first : goal.returns-then-root_first
returns-then-root_first c = λ before s. tr.line_right before c.args.first c.args.depth c.args.label c.args.state c.join.result (told_yes c.root_first.result c.root_first.ensures c.if-root_first.true) (c.join.ensures before s)

pub returns : goal.returns
returns c = λ before s. tr.line_wrong before c.args.first c.args.depth c.args.label c.args.state (told_no c.root_first.result c.root_first.ensures c.if-root_first.false)
