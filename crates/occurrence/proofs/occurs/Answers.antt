use native.Mathlib.Omega.{arith}
use Rattle.matching.proofs.OccursAtLaws.{unmeasured}
use Rattle.occurrence.proofs.OccursLaws as l
use Rattle.occurrence.proofs.occurs.Goals as goal

pub loop-node-init : goal.loop-node-init
loop-node-init c = l.none_yet _ _

pub occurs_at-requires : goal.occurs_at-requires
occurs_at-requires c = (c.requires, unmeasured _ c.requires.tree_nodes, omega (arith, c.requires.tree_is_tree.has_root, c.loop-node-test.true))

pub returns-then-occurs_at : goal.returns-then-occurs_at
returns-then-occurs_at c = l.occurs_here _ _ _ (rw c.if-occurs_at.true at c.occurs_at.ensures)

pub loop-node-preserved : goal.loop-node-preserved
loop-node-preserved c = l.one_further _ _ _ c.loop-node.invariant (rw c.if-occurs_at.false at c.occurs_at.ensures)

pub returns : goal.returns
returns c = l.occurs_not _ _ _ c.requires.pattern_is_tree c.loop-node-test.false c.loop-node.invariant
