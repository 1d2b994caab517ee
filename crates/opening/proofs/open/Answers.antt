use Rattle.opening.proofs.OpenLaws.{begins}
use Rattle.opening.proofs.open.Goals as goal

pub returns : goal.returns
returns c = let r = c.read-answer.ensures in
    let z = begins c.args.request c.args.sheet.now _ _ _ _ _ r.value r.memory_after r.index_after c.begin.ensures in
    record { memory_after = z.output; by_index = z.proper; memory_len = r.memory_len; memory_after_2 = r.memory_after; index_after = r.index_after }
