use native.Mathlib.Omega.{arith}
use Prim.Native.Nat.{◌-◌}
use Rattle.pages.proofs.PrintLaws as l
use Rattle.pages.proofs.print.Goals as goal

pub begin-printing-requires : goal.begin-printing-requires
begin-printing-requires c = c.requires.0

pub loop-page-init : goal.loop-page-init
loop-page-init c = l.begins _ c.begin-printing.ensures.printing

pub overflow_mul-page : goal.overflow_mul-page
overflow_mul-page c = omega (arith, c.requires.2, c.well_formed.1.1.1.1.1.1.1.1.1.1.0)

pub slice_bounds-page-count : goal.slice_bounds-page-count
slice_bounds-page-count c = l.begun_within c.loop-page.invariant

pub slice_bounds-page-start : goal.slice_bounds-page-start
slice_bounds-page-start c = l.begun_within c.loop-page.invariant

pub page-printed-requires : goal.page-printed-requires
page-printed-requires c = (c.loop-page.invariant.is_printing, l.room c.loop-page.invariant _ (omega arith) c.requires.2)

pub loop-page-preserved : goal.loop-page-preserved
loop-page-preserved c = l.goes_on c.loop-page.invariant _ c.begin-printing.ensures.fleet_value c.requires.0 c.requires.1 (omega arith) c.page-printed.ensures

pub shape_of-output : goal.shape_of-output
shape_of-output c = l.same_length c.loop-page.invariant

pub returns : goal.returns
returns c = l.ends c.loop-page.invariant _ c.begin-printing.ensures.fleet_value c.requires.0 c.requires.1 (omega arith)
