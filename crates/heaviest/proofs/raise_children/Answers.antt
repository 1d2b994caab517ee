use Rattle.heaviest.proofs.PlaceLaws as s
use Rattle.heaviest.proofs.raise_children.Goals as goal
use Rattle.heaviest.proofs.raise_children.Goals.{then-pattern-child, else-pattern-child}

pub loop-child-init : goal.loop-child-init
loop-child-init c = s.raised_start _ _ _ _ _ _ c.requires.0 c.subtree_end-end.ensures

pub raise-requires : goal.raise-requires
raise-requires c = (s.raise_input _ _ _ _ _ _ _ _ _ c.loop-child.invariant c.loop-child-test.true c.if-pattern-child.true, c.subtree_end-stop.ensures, c.requires.1)

pub loop-child-preserved : goal.loop-child-preserved
loop-child-preserved c = elim c.if-pattern-child.branch [
  | then-pattern-child w ↦ rw (w.places-is, w.fixed-is) (s.raised_next _ _ _ _ _ _ _ _ _ c.loop-child.invariant _ c.loop-child-test.true w.if-pattern-child.true w.raise.ensures)
  | else-pattern-child w ↦ rw (w.places-is, w.fixed-is) (s.raised_skip _ _ _ _ _ _ _ _ _ c.loop-child.invariant c.loop-child-test.true w.if-pattern-child.false)
]

pub returns : goal.returns
returns c = s.raised_end _ _ _ _ _ _ _ _ _ c.loop-child.invariant c.loop-child-test.false
