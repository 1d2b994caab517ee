use native.Mathlib.Omega.{arith}
use Rattle.scan.specs.Scan.{ExtensionIs}
use Rattle.scan.proofs.ScanLaws as l
use Rattle.scan.proofs.scan.Goals as goal

pub slice_bounds-top-end : goal.slice_bounds-top-end
slice_bounds-top-end c = l.front_length _ _ (omega (arith, c.requires.all_nodes, c.requires.few))

pub returns-then-from-end : goal.returns-then-from-end
unfolding ExtensionIs
returns-then-from-end c = l.none_above c.requires c.top-end.ensures c.if-from-end.true

pub next_likely-x-requires : goal.next_likely-x-requires
next_likely-x-requires c = (omega (arith, c.if-from-end.false), omega (arith, c.top-end.ensures, c.requires.room))

pub returns-then-x-end : goal.returns-then-x-end
unfolding ExtensionIs
returns-then-x-end c = l.none_likely _ c.requires c.top-end.ensures c.next_likely-x.ensures c.if-x-end.true

pub overflow_cast-result : goal.overflow_cast-result
overflow_cast-result c = omega (arith, l.likely_small _ c.requires c.top-end.ensures c.next_likely-x.ensures c.if-x-end.false)

pub bounds-counts-x : goal.bounds-counts-x
bounds-counts-x c = omega (arith, l.likely_inside _ c.requires c.top-end.ensures c.next_likely-x.ensures c.if-x-end.false, c.top-end.ensures, c.requires.room)

pub overflow_cast-result-2 : goal.overflow_cast-result-2
overflow_cast-result-2 c = omega (arith, c.type_inv.counts c.next_likely-x.result)

pub returns : goal.returns
unfolding ExtensionIs
returns c = l.least_likely _ c.requires c.top-end.ensures c.next_likely-x.ensures c.if-x-end.false
