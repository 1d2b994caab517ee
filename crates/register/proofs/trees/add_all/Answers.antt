use Rattle.register.proofs.AllLaws as l
use Rattle.register.proofs.trees.add_all.Goals as goal

pub loop-at-init : goal.loop-at-init
loop-at-init c = l.all_start c.requires

pub add-requires : goal.add-requires
add-requires c = l.all_add c.loop-at.invariant (c.tree_end-end.ensures.of_tree c.loop-at-test.true)

pub loop-at-preserved : goal.loop-at-preserved
loop-at-preserved c = l.all_on c.loop-at.invariant (c.tree_end-end.ensures.of_tree c.loop-at-test.true) c.add.ensures

pub returns : goal.returns
returns c = l.all_end c.loop-at.invariant c.loop-at-test.false
