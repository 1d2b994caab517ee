use Rattle.matching.proofs.OccursAtLaws.{unmeasured}
use Rattle.heaviest.proofs.PlaceLaws as s
use Rattle.heaviest.proofs.write.Goals as goal

pub last_root-requires : goal.last_root-requires
last_root-requires c = (c.requires.trees, unmeasured _ c.requires.trees.tree_nodes)

pub returns-in_default : goal.returns-in_default
returns-in_default c = s.write_nowhere _ _ _ c.requires.trees.pattern_is_tree (c.in_default.ensures)

pub loop-node-init : goal.loop-node-init
loop-node-init c = s.write_start _ _ _ _ c.requires (c.in-Some.ensures)

pub place_children-requires : goal.place_children-requires
place_children-requires c = (c.loop-node.invariant.input, c.loop-node.invariant.before, c.loop-node-test.true, unmeasured _ c.loop-node.invariant.input.trees.tree_nodes)

pub loop-node-preserved : goal.loop-node-preserved
loop-node-preserved c = s.write_next _ _ _ _ _ _ c.loop-node.invariant c.loop-node-test.true c.place_children.ensures.0 c.place_children.ensures.1

pub returns : goal.returns
returns c = s.write_done _ _ _ _ _ _ c.loop-node.invariant c.loop-node-test.false
