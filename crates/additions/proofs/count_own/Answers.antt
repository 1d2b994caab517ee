use mathlib.Core.Logic.{inl, inr}
use Rattle.additions.proofs.OwnLaws as l
use Rattle.additions.proofs.count_own.Goals as goal
use Rattle.additions.proofs.count_own.Goals.{then-depth-deepest+then-branch-depth, else-depth-deepest, else-depth-deepest-via-then-depth-deepest+else-branch-depth, else-depth-deepest-via-else-depth-deepest}

pub loop-i-init : goal.loop-i-init
loop-i-init c = l.own_start c.requires.0 c.requires.1

pub loop-i-preserved : goal.loop-i-preserved
loop-i-preserved c = elim c.if-depth-deepest.branch [
  | then-depth-deepest+then-branch-depth w ↦ rw w.own-is (l.own_more c.requires.0 c.branch_of-branch.ensures c.loop-i.invariant c.loop-i-test.true w.if-depth-deepest.true w.if-branch-depth.true)
  | else-depth-deepest w ↦ rw w.own-is (l.own_same c.requires.0 c.branch_of-branch.ensures c.loop-i.invariant c.loop-i-test.true
      (elim w.else-depth-deepest.branch [
        | else-depth-deepest-via-then-depth-deepest+else-branch-depth q ↦ inr q.if-branch-depth.false
        | else-depth-deepest-via-else-depth-deepest q ↦ inl q.if-depth-deepest.false
      ]))
]

pub returns : goal.returns
returns c = l.own_end c.loop-i.invariant c.loop-i-test.false
