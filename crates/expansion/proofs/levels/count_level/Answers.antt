use native.Mathlib.Omega.{arith}
use Rattle.scan.proofs.ScanLaws.{front_length}
use Rattle.expansion.proofs.LevelTables as l
use Rattle.expansion.proofs.levels.count_level.Goals as goal

pub returns-then-len-eq0 : goal.returns-then-len-eq0
returns-then-len-eq0 c = l.labels_gathered {n = c.args.len} _ (omega (arith, c.if-len-eq0.true)) c.gather.ensures

pub overflow_add-end : goal.overflow_add-end
overflow_add-end c = omega (arith, l.counted_places_end c.requires.1 (omega (arith, c.if-len-eq0.false)))

pub slice_bounds-gather-end : goal.slice_bounds-gather-end
slice_bounds-gather-end c = front_length _ _ (omega (arith, c.requires.1.all_nodes, c.requires.1.few))

pub slice_bounds-gather-end-2 : goal.slice_bounds-gather-end-2
slice_bounds-gather-end-2 c = l.counted_places_end c.requires.1 (omega (arith, c.if-len-eq0.false))

pub gather-requires-2 : goal.gather-requires-2
gather-requires-2 c = l.gather_input c.requires.1 (omega (arith, c.if-len-eq0.false))
