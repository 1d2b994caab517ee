use native.Mathlib.Omega.{arith}
use Rattle.tree.proofs.SubtreeLaws.{deeper_more}
use Rattle.tree.proofs.end_from.Goals as goal

pub loop-end-init : goal.loop-end-init
loop-end-init c = let h = c.requires.1 in (omega arith, h.within, omega arith, h.below)

pub loop-end-preserved : goal.loop-end-preserved
loop-end-preserved c = let a = c.args in
    let l = c.loop-end in
    (omega arith, omega arith, l.invariant.2, deeper_more a.tree.now a.node l.end l.invariant.3 (omega arith))
