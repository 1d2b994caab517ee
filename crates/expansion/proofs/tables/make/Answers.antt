use Rattle.expansion.proofs.TableLaws as t
use Rattle.expansion.proofs.tables.make.Goals as goal

pub index-requires : goal.index-requires
index-requires c = t.index_input c.requires

pub loop-level-init : goal.loop-level-init
loop-level-init c = t.made_none c.requires c.index.ensures

pub reach-requires : goal.reach-requires
reach-requires c = t.reach_input c.loop-level.invariant c.loop-level-test.true

pub loop-level-preserved : goal.loop-level-preserved
loop-level-preserved c = t.made_more c.loop-level.invariant c.loop-level-test.true c.reach.ensures

pub shape_of-places : goal.shape_of-places
shape_of-places c = t.same_places c.requires c.loop-level.invariant

pub returns : goal.returns
returns c = t.made_all c.loop-level.invariant c.loop-level-test.false
