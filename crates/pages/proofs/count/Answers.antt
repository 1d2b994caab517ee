use native.Mathlib.Omega.{arith}
use mathlib.Core.Path.{sym, ◌∙◌}
use Rattle.pages.proofs.CountingLaws as l
use Rattle.pages.proofs.count.Goals.{then-used-gt-LINES, else-used-gt-LINES}
use Rattle.pages.proofs.count.Goals as goal

pub begin-printing-requires : goal.begin-printing-requires
begin-printing-requires c = c.requires.0

pub loop-pages-init : goal.loop-pages-init
loop-pages-init c = l.begins c.begin-printing.ensures.printing

pub lines-lines-requires : goal.lines-lines-requires
lines-lines-requires c = c.loop-pages.invariant.is_printing.on_paper

pub overflow_add-result : goal.overflow_add-result
overflow_add-result c = omega (arith, c.loop-pages-test.true, c.requires.1)

pub returns-then-lines-eq0 : goal.returns-then-lines-eq0
returns-then-lines-eq0 c = record { value = l.ends c.loop-pages.invariant _ c.begin-printing.ensures.fleet_value c.loop-pages-test.true (sym c.lines-lines.ensures ∙ c.if-lines-eq0.true); all_tables = c.loop-pages.invariant.is_printing.all }

pub overflow_add-used : goal.overflow_add-used
overflow_add-used c = omega (arith, l.lines_fit c.loop-pages.invariant c.lines-lines.ensures)

pub overflow_add-pages : goal.overflow_add-pages
overflow_add-pages c = omega (arith, c.loop-pages-test.true, c.requires.1)

pub onward-printing-requires : goal.onward-printing-requires
onward-printing-requires c = c.loop-pages.invariant.is_printing

pub loop-pages-smaller : goal.loop-pages-smaller
loop-pages-smaller c = l.shorter c.loop-pages.invariant c.lines-lines.ensures c.if-lines-eq0.false c.onward-printing.ensures

pub loop-pages-preserved : goal.loop-pages-preserved
loop-pages-preserved c = elim c.if-used-gt-LINES.branch [ then-used-gt-LINES w ↦ rw (w.pages-is, w.used-is) (l.turns c.loop-pages.invariant c.lines-lines.ensures c.if-lines-eq0.false c.onward-printing.ensures w.if-used-gt-LINES.true) | else-used-gt-LINES w ↦ rw (w.pages-is, w.used-is) (l.fits c.loop-pages.invariant c.lines-lines.ensures c.if-lines-eq0.false c.onward-printing.ensures w.if-used-gt-LINES.false) ]

pub overflow_add-result-2 : goal.overflow_add-result-2
overflow_add-result-2 c = omega (arith, c.requires.1)

pub returns : goal.returns
returns c = record { value = l.ends_above c.loop-pages.invariant _ c.begin-printing.ensures.fleet_value c.loop-pages-test.false; all_tables = c.loop-pages.invariant.is_printing.all }
