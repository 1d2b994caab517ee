use Rattle.additions.proofs.AddLaws as l
use Rattle.additions.proofs.note_places.Goals as goal

pub loop-place-init : goal.loop-place-init
loop-place-init c = l.added_start c.requires

pub note_place-most-requires : goal.note_place-most-requires
note_place-most-requires c = l.added_input c.loop-place.invariant c.loop-place-test.true

pub returns-then-most-need : goal.returns-then-most-need
returns-then-most-need c = l.added_reached c.loop-place.invariant c.loop-place-test.true c.note_place-most.ensures.place_noted c.note_place-most.ensures.most c.if-most-need.true

pub loop-place-preserved : goal.loop-place-preserved
loop-place-preserved c = l.added_next c.loop-place.invariant c.loop-place-test.true c.note_place-most.ensures.place_noted c.note_place-most.ensures.most c.if-most-need.false

pub returns : goal.returns
returns c = l.added_none c.loop-place.invariant c.loop-place-test.false
