use Rattle.header.proofs.HeaderLaws.{sheet_cut}
use Rattle.header.proofs.sheet_behind.Goals as goal

pub returns : goal.returns
returns c = sheet_cut c.args.header c.min.result c.min-2.result c.args.input.now c.min.ensures c.min-2.ensures
