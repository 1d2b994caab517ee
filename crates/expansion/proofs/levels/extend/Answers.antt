use native.Mathlib.Omega.{arith}
use Rattle.expansion.proofs.LevelKnown as l
use Rattle.expansion.proofs.levels.extend.Goals as goal
use Rattle.expansion.proofs.levels.extend.Goals.{then-not-kept, else-not-kept+else-not-known-len}

pub overflow_add-to-2 : goal.overflow_add-to-2
overflow_add-to-2 c = omega (arith, c.slot_of-at.ensures, l.end_small c.requires.1)

pub slice_bounds-count_level-end : goal.slice_bounds-count_level-end
slice_bounds-count_level-end c = omega (arith, c.slot_of-at.ensures, l.room_at c.requires.1)

pub count_level-requires : goal.count_level-requires
count_level-requires c = rw c.slot_of-at.ensures (c.requires.0, l.count_input c.requires.1)

pub slice_bounds-scan-end : goal.slice_bounds-scan-end
slice_bounds-scan-end c = omega (arith, c.slot_of-at.ensures, l.room_at c.requires.1, c.if-not-kept.auto.counts)

pub scan-requires : goal.scan-requires
scan-requires c = let e = c.slot_of-at.ensures in
    let i = c.requires.1 in
    rw e (l.scan_input i {counts' = c.if-not-kept.counts} {known' = c.if-not-kept.known} (elim c.if-not-kept.branch [
      | then-not-kept w ↦ rw (w.counts-is, w.known-is, e) (l.made_now i (rw e at w.count_level.ensures))
      | else-not-kept+else-not-known-len w ↦ rw (w.counts-is, w.known-is) (l.already i w.if-not-kept.false w.if-not-known-len.false)
    ]))

pub shape_of-counts : goal.shape_of-counts
shape_of-counts c = c.if-not-kept.auto.counts

pub returns : goal.returns
returns c = record {
  extension_is = c.scan.ensures;
  remembers =
      let e = c.slot_of-at.ensures in
      let i = c.requires.1 in
      elim c.if-not-kept.branch [
        | then-not-kept w ↦ rw (w.counts-is, w.known-is, e) (l.made_now i (rw e at w.count_level.ensures)).remembers
        | else-not-kept+else-not-known-len w ↦ rw (w.counts-is, w.known-is) i.remembers
      ];
}
