use Rattle.new_root.proofs.NewRootLaws as l
use Rattle.new_root.proofs.root_reaches.Goals as goal

pub loop-place-init : goal.loop-place-init
loop-place-init c = (c.requires.from_1, l.roots_start c.requires)

pub note_above-most-requires : goal.note_above-most-requires
note_above-most-requires c = l.next_input c.loop-place.invariant.1 c.loop-place-test.true

pub returns-then-most-need : goal.returns-then-most-need
returns-then-most-need c = l.root_reached (l.roots_next c.loop-place.invariant.1 c.loop-place-test.true (c.note_above-most.ensures.all_noted, c.note_above-most.ensures.most)) c.if-most-need.true

pub loop-place-preserved : goal.loop-place-preserved
loop-place-preserved c = (c.if-most-need.false, l.roots_next c.loop-place.invariant.1 c.loop-place-test.true (c.note_above-most.ensures.all_noted, c.note_above-most.ensures.most))

pub returns : goal.returns
returns c = l.none_reached c.loop-place.invariant.1 c.loop-place.invariant.0 c.loop-place-test.false
