use Rattle.std.proofs.Common.{rules, true≢false}
use Rattle.std.proofs.KnownBytes.{Appends-nil}
use Rattle.streams.proofs.OutputLaws.{ok_unless}
use Rattle.run.specs.Claims.{no_part_yet}
use Rattle.run.proofs.TableLaws.{zero_tables}
use Rattle.writing_out.proofs.WritingLaws.{one_part_more, nothing_left, all_appended, write_failed}
use Rattle.writing_out.proofs.write_lines.Goals as goal

pub loop-places-init : goal.loop-places-init
loop-places-init g c = record { given = _; by_parts = no_part_yet; is_run = c.requires _ _ _ _ zero_tables; appended = Appends-nil _ }

pub returns-then-len-eq0 : goal.returns-then-len-eq0
returns-then-len-eq0 g c = record {
  written = nothing_left c.loop-places.invariant c.part-part.ensures c.if-len-eq0.true;
  bytes = λ _. all_appended c.loop-places.invariant c.part-part.ensures c.if-len-eq0.true;
}

pub returns-then-is_err : goal.returns-then-is_err
returns-then-is_err g c = record { written = write_failed c.loop-places.invariant; bytes = λ e. absurd (true≢false e) }

pub loop-places-preserved : goal.loop-places-preserved
loop-places-preserved g c = one_part_more c.loop-places.invariant c.part-part.ensures (ok_unless c.write_all.result c.is_err.ensures.value c.if-is_err.false c.write_all.ensures.bytes)
