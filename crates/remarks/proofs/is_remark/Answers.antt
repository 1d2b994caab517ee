use Prim.Native.Nat.{◌/◌, ◌%◌}
use Rattle.remarks.proofs.WalkLaws.{told_equal}
use Rattle.remarks.proofs.is_remark.Goals as goal

pub returns : goal.returns
returns c = told_equal (c.args.pair % 1000 / 100) 6
