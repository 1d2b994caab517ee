use borrow.Author.Rules.{rules}
use Rattle.opening.proofs.OpenLaws.{read_fleet, sheet_read}
use Rattle.opening.proofs.read.Goals as goal

pub index_read-requires : goal.index_read-requires
index_read-requires c = read_fleet _ _ _ (c.read_unless-answer.ensures.value, c.read_unless-answer.ensures.memory_after) c.nodes_read-nodes.ensures

pub returns : goal.returns
returns c = let z = sheet_read c.args.request c.args.sheet.now _ _ _ _ _ c.request_refusal-later.ensures (c.read_unless-answer.ensures.value, c.read_unless-answer.ensures.memory_after) c.nodes_read-nodes.ensures c.index_read.ensures in
    record { value = z.0; memory_len = search rules; memory_after = z.1; index_after = z.2 }
