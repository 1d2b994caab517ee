use Rattle.printing.proofs.PageLaws as l
use Rattle.printing.proofs.put_foot.Goals as goal

pub returns-then-used-eq0 : goal.returns-then-used-eq0
returns-then-used-eq0 c = l.no_foot c.if-used-eq0.true

pub returns : goal.returns
returns c = l.foot_put c.if-used-eq0.false c.put_blank_lines.ensures.put
