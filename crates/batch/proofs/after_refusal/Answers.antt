use mathlib.Core.Path.{◌∙◌}
use Rattle.batch.proofs.BatchLaws as l
use Rattle.batch.proofs.after_refusal.Goals as goal

pub returns-then-pattern-eq0 : goal.returns-then-pattern-eq0
returns-then-pattern-eq0 c = l.after_none c.args.pattern.now c.args.bound c.if-pattern-eq0.true

pub returns : goal.returns
returns c = c.pattern_refusal.ensures ∙ l.after_some c.args.pattern.now c.args.bound c.if-pattern-eq0.false
