-- The rightmost branch of a pattern, and what of it the search keeps.
use Rattle.std.specs.Prelude.{List, ℕ, ◌≤◌, ◌<◌, ◌≡◌, length, get_or}
use Rattle.terms.specs.Tree.{depthAt, IsTree}
use Rattle.terms.specs.Form.{InForm}
use Rattle.matching.specs.Limits.{most_nodes_of_a_pattern}
use Rattle.rightmost.specs.Ends.{last_of, OnBranch}
use Rattle.rightmost.specs.Counts.{AtLevel}

-- A tree, as large as a pattern may be.
pub record PatternInput (pattern : List ℕ) : Type 0 where
  pub is_tree : IsTree pattern
  pub few : length pattern ≤ most_nodes_of_a_pattern

-- The node of each depth on the rightmost branch. Past the last node's depth what the array holds is free.
pub record BranchOf (pattern branch : List ℕ) : Type 0 where
  pub all : length branch ≡ 16
  pub each : (e : ℕ) → e ≤ depthAt pattern (last_of pattern) → OnBranch pattern e (get_or branch e 0)

-- For each depth of the branch the heaviest pair that may follow as a child of its node there, and how many such children that node has.
-- Past the last node's depth what the arrays hold is free.
pub record LevelsOf (pattern heaviest equal : List ℕ) : Type 0 where
  pub all_heaviest : length heaviest ≡ 16
  pub all_equal : length equal ≡ 16
  pub small : (e : ℕ) → e ≤ depthAt pattern (last_of pattern) → get_or heaviest e 0 < 16000
  pub few : (e : ℕ) → e ≤ depthAt pattern (last_of pattern) → get_or equal e 0 ≤ 16
  pub each : (e b : ℕ) → OnBranch pattern e b → AtLevel pattern b (get_or heaviest e 0) (get_or equal e 0)

-- A form, as large as a pattern may be.
pub record FormInput (pattern : List ℕ) : Type 0 where
  pub in_form : InForm pattern
  pub few : length pattern ≤ most_nodes_of_a_pattern
