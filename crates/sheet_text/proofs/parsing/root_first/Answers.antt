use Rattle.sheet_text.proofs.ReadingLaws as tr
use Rattle.sheet_text.proofs.parsing.root_first.Goals as goal

pub returns-then-depth-eq0 : goal.returns-then-depth-eq0
returns-then-depth-eq0 c = tr.root_told c.args.first c.args.depth c.if-depth-eq0.true

pub returns : goal.returns
returns c = tr.other_told c.args.first c.args.depth c.if-depth-eq0.false
