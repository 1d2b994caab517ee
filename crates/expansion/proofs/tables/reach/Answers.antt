use Rattle.expansion.proofs.TableLaws as t
use Rattle.expansion.proofs.tables.reach.Goals as goal

pub returns-then-len-eq0 : goal.returns-then-len-eq0
returns-then-len-eq0 c = λ kept numbers counts m. t.reach_nothing c.requires.room m c.if-len-eq0.true

pub enter-requires : goal.enter-requires
enter-requires c = t.enter_input c.requires c.if-len-eq0.false

pub returns : goal.returns
returns c = λ kept numbers counts m. t.reach_enter c.requires.room m c.enter.ensures
