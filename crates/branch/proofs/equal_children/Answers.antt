use mathlib.Core.Path.{◌≡◌}
use Prim.Native.Nat.{◌+◌}
use lib.Dec.{eqb}
use lib.ListN.{length}
use Rattle.std.proofs.Common.{rules}
use Rattle.std.proofs.iter.runs.Made.{chains}
use Rattle.std.specs.List.{between, count_by}
use Rattle.branch.proofs.BranchChildren as b
use Rattle.branch.proofs.equal_children.Goals as goal

pub returns : goal.returns
returns c =
    let pattern = c.args.pattern.now in
    let e : c.count.result ≡ count_by (λ y. eqb y c.args.pair) (between (c.args.node + 1) (length pattern) pattern) = search (rules, chains) in
    b.equal_all c.requires.0 e
