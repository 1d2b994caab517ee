-- What the functions that find the heaviest pair to follow are given, and what they answer.
use Rattle.std.specs.Prelude.{List, ℕ, suc, ◌≤◌, ◌<◌}
use Rattle.terms.specs.Tree.{depthAt, IsTree}
use Rattle.rightmost.specs.Ends.{last_of, OnBranch}
use Rattle.rightmost.specs.NextPair.{LimitTo}

-- A node of the branch below the root, and what the neighbours above it allow.
pub record AllowInput (pattern : List ℕ) (j most : ℕ) : Type 0 where
  pub is_tree : IsTree pattern
  pub on_branch : OnBranch pattern (depthAt pattern j) j
  pub below_root : 1 ≤ j
  pub above : LimitTo pattern (depthAt pattern j) most

-- What they allow together with those of the node's own depth.
pub record Allowed (pattern : List ℕ) (j most allowed : ℕ) : Type 0 where
  pub all : LimitTo pattern (suc (depthAt pattern j)) allowed
  pub no_more : allowed ≤ most

-- What all neighbours along the branch allow.
pub record LimitOf (pattern : List ℕ) (most : ℕ) : Type 0 where
  pub all : LimitTo pattern (suc (depthAt pattern (last_of pattern))) most
  pub small : most < 16000
