use Rattle.std.proofs.Common.{refl}
use Rattle.text.proofs.TextLaws.{taken_length}
use Rattle.pages_main.proofs.WritingLaws.{read_in, may_begin, printed_out, pages_out, told_refusal, refusal_out, printed_by, appended_by, as_paper}
use Rattle.pages_main.proofs.print.Goals as goal

pub slice_bounds-memory-end : goal.slice_bounds-memory-end
slice_bounds-memory-end g c = let r = c.read-answer.ensures in (read_in _ _ _ _ _ _ _ _ r.value r.memory_after r.index_after c.in-Done.is).within

pub slice_bounds-write_pages-end : goal.slice_bounds-write_pages-end
slice_bounds-write_pages-end g c = let r = c.read-answer.ensures in taken_length _ (read_in _ _ _ _ _ _ _ _ r.value r.memory_after r.index_after c.in-Done.is).within

pub write_pages-rest-requires : goal.write_pages-rest-requires
write_pages-rest-requires g c = let r = c.read-answer.ensures in may_begin _ _ _ _ _ _ _ _ r.value r.memory_after r.index_after c.in-Done.is

pub returns-in-Refused : goal.returns-in-Refused
returns-in-Refused g c = record {
  printed = printed_by c.request_by-request.ensures c.sheet_in.ensures (told_refusal _ _ c.read-answer.ensures.value c.in-Refused.is c.tell.ensures.told);
  bytes = λ e. as_paper _ _ _ (appended_by _ _ c.request_by-request.ensures c.sheet_in.ensures (refusal_out _ _ _ _ c.read-answer.ensures.value c.in-Refused.is (c.tell.ensures.bytes e)));
}

pub returns-in-Done : goal.returns-in-Done
returns-in-Done g c = let r = c.read-answer.ensures in record {
  printed = printed_by c.request_by-request.ensures c.sheet_in.ensures (printed_out _ _ _ _ _ _ _ _ r.value r.memory_after r.index_after c.in-Done.is c.write_pages-rest.ensures.written refl);
  bytes = λ e. as_paper _ _ _ (appended_by _ _ c.request_by-request.ensures c.sheet_in.ensures (pages_out _ _ _ _ _ _ _ _ r.value r.memory_after r.index_after c.in-Done.is _ _ (c.write_pages-rest.ensures.bytes e)));
}
