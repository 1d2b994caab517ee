use Rattle.occurrence.proofs.CountLaws as s
use Rattle.occurrence.proofs.count_trees.Goals as goal

pub loop-start-init : goal.loop-start-init
loop-start-init c = s.count_start _ _ c.requires

pub occurs-requires : goal.occurs-requires
occurs-requires c = s.occurs_input _ _ _ _ _ c.loop-start.invariant (c.tree_end-end.ensures.of_tree c.loop-start-test.true)

pub loop-start-preserved-then-occurs : goal.loop-start-preserved-then-occurs
loop-start-preserved-then-occurs c = s.next_holds _ _ _ _ _ c.loop-start.invariant (c.tree_end-end.ensures.of_tree c.loop-start-test.true) (rw c.if-occurs.true at c.occurs.ensures)

pub loop-start-preserved : goal.loop-start-preserved
loop-start-preserved c = s.next_not _ _ _ _ _ c.loop-start.invariant (c.tree_end-end.ensures.of_tree c.loop-start-test.true) (rw c.if-occurs.false at c.occurs.ensures)

pub returns : goal.returns
returns c = s.count_end _ _ _ _ c.loop-start.invariant c.loop-start-test.false
