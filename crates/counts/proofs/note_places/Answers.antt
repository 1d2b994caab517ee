use native.Mathlib.Omega.{arith}
use Rattle.noting.proofs.GatherLaws as g
use Rattle.counts.proofs.CountLaws as l
use Rattle.counts.proofs.note_places.Goals as goal

pub loop-place-init : goal.loop-place-init
loop-place-init c = l.gathering_start c.requires c.levels.ensures

pub bounds-numbers-place : goal.bounds-numbers-place
bounds-numbers-place c = omega (arith, g.next_inside c.loop-place.invariant.gathered c.loop-place-test.true, c.loop-place.invariant.gathered.indexed.is_fleet.nodes)

pub note_place-requires : goal.note_place-requires
note_place-requires c = l.gathering_input c.loop-place.invariant c.loop-place-test.true

pub loop-place-preserved : goal.loop-place-preserved
loop-place-preserved c = l.gathering_next c.loop-place.invariant c.loop-place-test.true c.note_place.ensures

pub returns : goal.returns
returns c = l.gathering_end c.loop-place.invariant c.loop-place-test.false
