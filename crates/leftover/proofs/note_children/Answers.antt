use Rattle.fleet.proofs.TellsLaws.{told_yes, told_no}
use Rattle.noting.proofs.NoteLaws as n
use Rattle.leftover.proofs.LeftoverLaws as l
use Rattle.leftover.proofs.note_children.Goals as goal
use Rattle.leftover.proofs.note_children.Goals.{else-last-x-via-then-last-x+else-has_leftover, else-last-x-via-else-last-x}
use Rattle.leftover.proofs.note_children.Goals.{then-last-x+then-has_leftover, else-last-x}

pub loop-c-init : goal.loop-c-init
loop-c-init c = l.leftovers_start c.requires

pub bounds-last-x : goal.bounds-last-x
bounds-last-x c = l.in_last c.loop-c.invariant c.loop-c-test.true

pub bounds-own-x : goal.bounds-own-x
bounds-own-x c = l.in_own c.loop-c.invariant c.loop-c-test.true

pub has_leftover-requires : goal.has_leftover-requires
has_leftover-requires c = l.leftover_input c.loop-c.invariant c.loop-c-test.true

pub note-requires : goal.note-requires
note-requires c = n.child_note c.loop-c.invariant.to c.loop-c-test.true (l.is_leftover c.loop-c.invariant c.loop-c-test.true (told_yes c.has_leftover.result c.has_leftover.ensures c.if-has_leftover.true))

pub loop-c-preserved : goal.loop-c-preserved
loop-c-preserved c = elim c.if-last-x.branch [
  | then-last-x+then-has_leftover w ↦ rw (w.counts-is, w.last-is, w.largest-is) (l.leftovers_more c.loop-c.invariant c.loop-c-test.true (told_yes w.has_leftover.result w.has_leftover.ensures w.if-has_leftover.true) w.note.ensures w.max-largest.ensures)
  | else-last-x w ↦ rw (w.counts-is, w.last-is, w.largest-is) (elim w.else-last-x.branch [
    | else-last-x-via-then-last-x+else-has_leftover v ↦ l.leftovers_not c.loop-c.invariant c.loop-c-test.true (told_no v.has_leftover.result v.has_leftover.ensures v.if-has_leftover.false)
    | else-last-x-via-else-last-x v ↦ l.leftovers_again c.loop-c.invariant c.loop-c-test.true v.if-last-x.false
  ])
]

pub returns-clause-all_noted : goal.returns-clause-all_noted
returns-clause-all_noted c = n.children_end c.loop-c.invariant.to c.loop-c-test.false
