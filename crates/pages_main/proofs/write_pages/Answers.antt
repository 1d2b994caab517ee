use Rattle.std.proofs.Common.{rules, ◌∙◌}
use mathlib.Core.Bool.{true≢false}
use Rattle.streams.proofs.OutputLaws.{ok_unless}
use Rattle.text.proofs.TextLaws.{put_length}
use Rattle.run.proofs.TableLaws.{zero_tables}
use Rattle.pages_main.proofs.WritingLaws.{begins, one_page_more, nothing_left, all_appended, write_failed, less_after_page}
use Rattle.pages_main.proofs.write_pages.Goals as goal

pub begin-printing-requires : goal.begin-printing-requires
begin-printing-requires g c = c.requires _ _ _ _ zero_tables

pub loop-places-init : goal.loop-places-init
loop-places-init g c = (search rules, begins _ c.begin-printing.ensures.printing)

pub page-printed-requires : goal.page-printed-requires
page-printed-requires g c = (c.loop-places.invariant.1.is_printing, search rules)

pub returns-then-len-eq0 : goal.returns-then-len-eq0
returns-then-len-eq0 g c = record {
  written = nothing_left c.loop-places.invariant.1 _ c.begin-printing.ensures.fleet_value c.page-printed.ensures c.if-len-eq0.true;
  bytes = λ _. all_appended c.loop-places.invariant.1 _ c.begin-printing.ensures.fleet_value c.page-printed.ensures c.if-len-eq0.true;
}

pub returns-then-is_err : goal.returns-then-is_err
returns-then-is_err g c = record {
  written = write_failed c.loop-places.invariant.1 _ c.begin-printing.ensures.fleet_value;
  bytes = λ e. absurd (true≢false e);
}

pub loop-places-smaller : goal.loop-places-smaller
loop-places-smaller g c = less_after_page c.page-printed.ensures c.if-len-eq0.false

pub loop-places-preserved : goal.loop-places-preserved
loop-places-preserved g c = (
  put_length c.page-printed.ensures.the_page ∙ c.loop-places.invariant.0,
  one_page_more c.loop-places.invariant.1 c.page-printed.ensures c.if-len-eq0.false (ok_unless c.write_all.result c.is_err.ensures.value c.if-is_err.false c.write_all.ensures.bytes),
)
