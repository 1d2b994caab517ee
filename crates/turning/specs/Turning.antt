-- What turning a pattern makes of it.
use Rattle.std.specs.Prelude.{◌≡◌, List, ℕ, ◌≤◌, ◌<◌, length, take}
use Rattle.turned.specs.Turned.{TurnedToEnd}

-- The leaf stands last, and so many pairs at the front have not moved: the root at least, if it is not the leaf.
pub record LeafTurned (pattern : List ℕ) (leaf : ℕ) (turned : List ℕ) (unmoved : ℕ) : Type 0 where
  pub to_end : TurnedToEnd pattern leaf turned
  pub as_long : length turned ≡ length pattern
  pub to_leaf : unmoved ≤ leaf
  pub root_unmoved : 1 < length pattern → 1 ≤ unmoved
  pub beginning : take unmoved turned ≡ take unmoved pattern
