use Rattle.sorting.proofs.SinkLaws as st
use Rattle.sorting.proofs.insertion.below_to.Goals as goal

pub returns-then-s-node : goal.returns-then-s-node
returns-then-s-node c = st.child_below c.requires.1 c.if-s-node.true

pub returns-else-s-node : goal.returns-else-s-node
returns-else-s-node c = st.none_below c.requires.0
