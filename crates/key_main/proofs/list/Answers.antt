use Rattle.writing_out.proofs.WritingLaws.{listed_by, appended_by}
use Rattle.key_main.proofs.list.Goals as goal

pub returns : goal.returns
returns g c = record {
  listed = listed_by c.request_by.ensures c.sheet_in.ensures c.list.ensures.listed;
  bytes = λ e. appended_by _ _ c.request_by.ensures c.sheet_in.ensures (c.list.ensures.bytes e);
}
