use native.Mathlib.Omega.{arith}
use Rattle.sheet_text.proofs.ReadingLaws as tr
use Rattle.sheet_text.proofs.parsing.ended.Goals as goal

pub returns-then-nodes-eq0 : goal.returns-then-nodes-eq0
returns-then-nodes-eq0 c = λ before e. tr.ended_none c.args.line before (omega arith)

pub returns : goal.returns
returns c = λ before e. tr.ended_some c.args.line c.args.nodes before e c.if-nodes-eq0.false
