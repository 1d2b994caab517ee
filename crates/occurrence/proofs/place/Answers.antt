use Rattle.fleet.proofs.TellsLaws.{told_yes, told_no}
use Rattle.occurrence.proofs.CallLaws as s
use Rattle.occurrence.proofs.place.Goals as goal

pub pattern_refusal-number-requires : goal.pattern_refusal-number-requires
pattern_refusal-number-requires c = tt

pub returns-then-number-gt0 : goal.returns-then-number-gt0
returns-then-number-gt0 c = s.place_refused _ _ _ _ _ c.pattern_refusal-number.ensures c.if-number-gt0.true

pub tree-tree-requires : goal.tree-tree-requires
tree-tree-requires c = tt

pub returns-then-tree-eq0 : goal.returns-then-tree-eq0
returns-then-tree-eq0 c = s.place_16 _ _ _ _ _ c.pattern_refusal-number.ensures c.if-number-gt0.false _ c.tree-tree.ensures c.if-tree-eq0.true

pub returns-then-output-pattern : goal.returns-then-output-pattern
returns-then-output-pattern c = s.place_17 _ _ _ _ _ c.pattern_refusal-number.ensures c.if-number-gt0.false _ c.tree-tree.ensures c.if-tree-eq0.false c.if-output-pattern.true

pub any-requires : goal.any-requires
any-requires c = tt

pub returns-then-any : goal.returns-then-any
returns-then-any c = s.place_remark _ _ _ _ _ c.pattern_refusal-number.ensures c.if-number-gt0.false _ c.tree-tree.ensures c.if-tree-eq0.false c.if-output-pattern.false (told_yes c.any.result c.any.ensures c.if-any.true)

pub write-requires : goal.write-requires
write-requires c = s.place_input _ _ _ _ _ c.pattern_refusal-number.ensures c.if-number-gt0.false _ c.tree-tree.ensures c.if-tree-eq0.false c.if-output-pattern.false

pub returns-then-write : goal.returns-then-write
returns-then-write c = s.place_placed _ _ _ _ _ c.pattern_refusal-number.ensures c.if-number-gt0.false _ c.tree-tree.ensures c.if-tree-eq0.false c.if-output-pattern.false (told_no c.any.result c.any.ensures c.if-any.false) _ (rw c.if-write.true at c.write.ensures)

pub returns : goal.returns
returns c = s.place_nowhere _ _ _ _ _ c.pattern_refusal-number.ensures c.if-number-gt0.false _ c.tree-tree.ensures c.if-tree-eq0.false c.if-output-pattern.false (told_no c.any.result c.any.ensures c.if-any.false) _ (rw c.if-write.false at c.write.ensures)
