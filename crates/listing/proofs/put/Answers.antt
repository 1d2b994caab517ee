use native.Mathlib.Omega.{arith}
use borrow.Author.Rules.{rules}
use Rattle.listing.proofs.StartStepLaws.{part_length, put_pairs}
use Rattle.listing.proofs.put.Goals as goal

pub slice_bounds-copy-end : goal.slice_bounds-copy-end
slice_bounds-copy-end c = part_length _ _ c.requires.0 (search rules)

pub copy-requires : goal.copy-requires
copy-requires c = omega (arith, part_length c.args.len c.args.nodes c.requires.0 (search rules), c.requires.1)

pub returns : goal.returns
returns c = put_pairs c.args.len c.args.nodes _ c.requires.0 (search rules) c.copy.ensures
