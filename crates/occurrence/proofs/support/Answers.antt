use Rattle.fleet.proofs.TellsLaws.{told_yes, told_no}
use Rattle.occurrence.proofs.CallLaws as s
use Rattle.occurrence.proofs.support.Goals as goal

pub pattern_refusal-number-requires : goal.pattern_refusal-number-requires
pattern_refusal-number-requires c = tt

pub returns-then-number-gt0 : goal.returns-then-number-gt0
returns-then-number-gt0 c = s.support_refused _ _ _ c.pattern_refusal-number.ensures c.if-number-gt0.true

pub any-requires : goal.any-requires
any-requires c = tt

pub returns-then-any : goal.returns-then-any
returns-then-any c = s.none_supported _ _ _ c.pattern_refusal-number.ensures c.if-number-gt0.false (told_yes c.any.result c.any.ensures c.if-any.true)

pub count_trees-requires : goal.count_trees-requires
count_trees-requires c = s.count_input _ _ _ c.pattern_refusal-number.ensures c.if-number-gt0.false

pub returns : goal.returns
returns c = s.all_supported _ _ _ _ c.pattern_refusal-number.ensures c.if-number-gt0.false (told_no c.any.result c.any.ensures c.if-any.false) c.count_trees.ensures
