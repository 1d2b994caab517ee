use Rattle.branch.proofs.BranchLimit as b
use Rattle.branch.proofs.limit.Goals as goal

pub loop-node-init : goal.loop-node-init
loop-node-init c = b.limit_begun c.requires.0.is_tree

pub allowed-most-requires : goal.allowed-most-requires
allowed-most-requires c = b.allow_input c.requires.0 c.requires.1 c.loop-node.invariant c.loop-node-test.true

pub loop-node-preserved : goal.loop-node-preserved
loop-node-preserved c = b.limit_next c.requires.0 c.requires.1 c.loop-node.invariant c.loop-node-test.true c.allowed-most.ensures
