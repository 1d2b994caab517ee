use mathlib.Core.Path.{refl}
use native.Mathlib.Omega.{arith}
use Rattle.matching.proofs.NeedLaws as n
use Rattle.heaviest.proofs.RaiseLaws as s
use Rattle.heaviest.proofs.raise.Goals as goal
use Rattle.heaviest.proofs.raise.Goals.{else-tree-place-via-then-tree-place+else-put, else-tree-place-via-else-tree-place}

pub overflow_add-place-start : goal.overflow_add-place-start
overflow_add-place-start c = n.inside_more c.requires.0.nodes.trees.tree_nodes (s.old_child c.requires.0).inside

pub loop-place-init : goal.loop-place-init
loop-place-init c = s.raise_start c.requires.0 c.pair_wanted-pair.ensures c.requires.1

pub put-requires : goal.put-requires
put-requires c = (s.put_input c.loop-place.invariant (omega arith) c.if-tree-place.true, c.requires.2)

pub returns-then-put : goal.returns-then-put
returns-then-put c = s.raise_put c.requires.0 c.loop-place.invariant (rw c.if-put.true at c.put.ensures)

pub loop-place-preserved : goal.loop-place-preserved
loop-place-preserved c = elim c.else-tree-place.branch [
  | else-tree-place-via-then-tree-place+else-put w ↦ rw w.places-is (s.down c.loop-place.invariant (omega arith) (rw w.if-put.false at w.put.ensures))
  | else-tree-place-via-else-tree-place w ↦ rw w.places-is (s.down_other c.loop-place.invariant (omega arith) w.if-tree-place.false)
]

pub returns : goal.returns
returns c = s.raise_end c.requires.0 c.loop-place.invariant refl (omega arith)
