use borrow.Author.Rules.{rules}
use native.Mathlib.Omega.{arith}
use Rattle.text.proofs.TextLaws.{depth_room, label_room, pair_within, pair_put}
use Rattle.text.proofs.put_pair.Goals as goal

pub put_number-stop-requires : goal.put_number-stop-requires
put_number-stop-requires c = depth_room _ _ _ (search rules) (search rules)

pub put_bytes-requires : goal.put_bytes-requires
put_bytes-requires c = label_room c.put_number-stop.ensures c.ranges.x c.requires

pub returns : goal.returns
returns c = record {
  put = pair_put c.put_number-stop.ensures c.ranges.x c.requires c.put_bytes.ensures;
  upper_bound = omega (arith, pair_within c.put_number-stop.ensures c.ranges.x c.requires, c.put_bytes.ensures.size);
}
