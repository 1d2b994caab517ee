use Rattle.matching.proofs.ScanLaws as s
use Rattle.matching.proofs.next_child.Goals as goal
use Rattle.matching.proofs.next_child.Goals.{then-last-image, else-last-image, else-here-pair-via-then-here-pair+else-sizes-place, else-here-pair-via-else-here-pair}

pub loop-place-init : goal.loop-place-init
loop-place-init c = let z = c.requires in elim c.if-last-image.branch [
  | then-last-image w ↦ rw w.place-is (s.scan_after z.0 z.1 z.2 w.if-last-image.true)
  | else-last-image w ↦ rw w.place-is (s.scan_first z.0 z.1 z.2 w.if-last-image.false)
]

pub returns-then-sizes-place : goal.returns-then-sizes-place
returns-then-sizes-place c = s.scan_found c.loop-place.invariant c.loop-place-test.true c.if-here-pair.true c.if-sizes-place.true

pub returns-then-here-least : goal.returns-then-here-least
returns-then-here-least c = s.scan_past c.loop-place.invariant c.if-here-least.true

pub loop-place-preserved : goal.loop-place-preserved
loop-place-preserved c = s.scan_on c.loop-place.invariant c.loop-place-test.true c.if-here-least.false (elim c.else-here-pair.branch [ else-here-pair-via-then-here-pair+else-sizes-place w ↦ λ _. w.if-sizes-place.false | else-here-pair-via-else-here-pair w ↦ λ z. absurd (w.if-here-pair.false z) ])

pub returns : goal.returns
returns c = s.scan_end c.loop-place.invariant c.loop-place-test.false
