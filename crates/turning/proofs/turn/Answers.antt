use Prim.Native.Nat.{◌-◌}
use native.Mathlib.Omega.{arith}
use Rattle.turning.proofs.TurnLaws as l
use Rattle.turning.proofs.turn.Goals as goal

pub loop-at-init : goal.loop-at-init
loop-at-init c = l.turn_start c.requires.0 c.requires.1

pub left-left-requires : goal.left-left-requires
left-left-requires c = (c.loop-at.invariant.turned.is_tree, l.has_left c.loop-at.invariant c.loop-at-test.true)

pub subtree_end-end-requires : goal.subtree_end-end-requires
subtree_end-end-requires c = (c.loop-at.invariant.turned.is_tree, c.loop-at-test.true)

pub exchange-requires : goal.exchange-requires
exchange-requires c = (omega (arith, c.left-left.ensures.0.after), omega (arith, c.subtree_end-end.ensures.after), c.subtree_end-end.ensures.within)

pub overflow_sub-at : goal.overflow_sub-at
overflow_sub-at c = omega (arith, c.subtree_end-end.ensures.after)

pub loop-at-smaller : goal.loop-at-smaller
loop-at-smaller c = omega (arith, c.subtree_end-end.ensures.after, c.subtree_end-end.ensures.within, c.exchange.ensures.same_length, c.loop-at.invariant.is_leaf.inside)

pub loop-at-preserved : goal.loop-at-preserved
loop-at-preserved c = rw c.min-unmoved.ensures (l.turn_on c.loop-at.invariant c.loop-at-test.true c.left-left.ensures c.subtree_end-end.ensures c.exchange.ensures)

pub shape_of-pattern : goal.shape_of-pattern
shape_of-pattern c = c.loop-at.invariant.as_long

pub returns : goal.returns
returns c = l.turn_end c.loop-at.invariant c.loop-at-test.false
