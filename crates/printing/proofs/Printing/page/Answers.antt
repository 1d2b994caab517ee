use mathlib.Core.Path.{◌∙◌}
use mathlib.Core.Logic.{inl, inr}
use borrow.Author.Rules.{rules}
use Rattle.text.proofs.TextLaws.{put_length}
use Rattle.printing.proofs.PageLaws as l
use Rattle.printing.proofs.Printing.page.Goals.{then-lines-eq0-via-then-lines-eq0, then-lines-eq0-via-else-lines-eq0+then-end-gt-LINES}
use Rattle.printing.proofs.Printing.page.Goals as goal

pub loop-page-init : goal.loop-page-init
loop-page-init c = l.begins _ c.requires.0 c.requires.1

pub lines-lines-requires : goal.lines-lines-requires
lines-lines-requires c = c.loop-page.invariant.is_printing.on_paper

pub overflow_add-end : goal.overflow_add-end
overflow_add-end c = l.sum_fits c.loop-page.invariant c.lines-lines.ensures

pub put_foot-len-requires : goal.put_foot-len-requires
put_foot-len-requires c = (c.loop-page.invariant.within, l.room_now c.loop-page.invariant)

pub shape_of-page-then-lines-eq0 : goal.shape_of-page-then-lines-eq0
shape_of-page-then-lines-eq0 c = put_length c.put_foot-len.ensures ∙ l.same_page c.loop-page.invariant

pub returns-then-lines-eq0 : goal.returns-then-lines-eq0
returns-then-lines-eq0 c = l.page_left c.loop-page.invariant c.lines-lines.ensures (elim c.then-lines-eq0.branch [ then-lines-eq0-via-then-lines-eq0 w ↦ inl w.if-lines-eq0.true | then-lines-eq0-via-else-lines-eq0+then-end-gt-LINES w ↦ inr w.if-end-gt-LINES.true ]) c.put_foot-len.ensures

pub overflow_mul-used : goal.overflow_mul-used
overflow_mul-used c = l.bytes_fit c.loop-page.invariant

pub put-requires : goal.put-requires
put-requires c = (c.loop-page.invariant.is_printing.on_paper, l.block_room c.loop-page.invariant c.lines-lines.ensures (search rules))

pub onward-printing-requires : goal.onward-printing-requires
onward-printing-requires c = c.loop-page.invariant.is_printing

pub loop-page-smaller : goal.loop-page-smaller
loop-page-smaller c = l.less_left c.loop-page.invariant c.lines-lines.ensures (search rules) c.if-lines-eq0.false

pub loop-page-preserved : goal.loop-page-preserved
loop-page-preserved c = l.goes_on c.loop-page.invariant c.lines-lines.ensures (search rules) c.if-lines-eq0.false (c.put.ensures.put, c.put.ensures.value) c.onward-printing.ensures
