use borrow.Author.Rules.{rules}
use Rattle.text.proofs.TextLaws.{taken_length}
use Rattle.opening.proofs.OpenLaws.{index_input, index_made, index_kept}
use Rattle.opening.proofs.index_read.Goals as goal

pub slice_bounds-index-end : goal.slice_bounds-index-end
slice_bounds-index-end c = taken_length c.args.memory.now c.requires.within

pub index-requires : goal.index-requires
index-requires c = index_input c.requires (search rules) (search rules) (search rules) (search rules)

pub returns-then-nodes-gt0 : goal.returns-then-nodes-gt0
returns-then-nodes-gt0 c = index_made (search rules) c.index.ensures

pub returns-else-nodes-gt0 : goal.returns-else-nodes-gt0
returns-else-nodes-gt0 c = index_kept c.if-nodes-gt0.false
