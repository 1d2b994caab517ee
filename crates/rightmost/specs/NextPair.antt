-- Which pair may follow a form so that it is a form again: told by the rightmost branch.
use Rattle.std.specs.Prelude.{◌≡◌, List, ℕ, ◌+◌, ◌-◌, ◌/◌, ◌≤◌, ◌<◌, length, get_or}
use Rattle.terms.specs.Tree.{depthAt, SubtreeEnd}
use Rattle.rightmost.specs.Ends.{OnBranch}

-- The subtree at j is the right neighbour of that at i, and reaches to the end: j is on the rightmost branch.
pub record LastNeighbours (s : List ℕ) (i j : ℕ) : Type 0 where
  pub ends : SubtreeEnd s i j
  pub level : depthAt s j ≡ depthAt s i
  pub last : SubtreeEnd s j (length s)

-- All from j on is as it is from i on, and no more than what stands before j.
abbrev pub Repeats : (s : List ℕ) (i j : ℕ) → Type 0
Repeats s i j = (k : ℕ) → j + k < length s → (i + k < j) × (get_or s (i + k) 0 ≡ get_or s (j + k) 0)

-- The pair x is no heavier than the node of the branch that it would stand beside, and, where the last of two neighbours repeats the first so
-- far, no heavier than the pair with which the first goes on (where it is repeated whole: than the last one's own first pair).
pub record MayComeNext (s : List ℕ) (x : ℕ) : Type 0 where
  pub beside : (c : ℕ) → OnBranch s (x / 1000) c → x ≤ get_or s c 0
  pub behind : (i j : ℕ) → LastNeighbours s i j → Repeats s i j → x ≤ get_or s (i + (length s - j)) 0

-- What the neighbours along the branch of depths below t allow: no pair up to `most` is heavier than any of them allows, and every pair is that none
-- of them forbids.
pub record LimitTo (s : List ℕ) (t most : ℕ) : Type 0 where
  pub allows : (i j : ℕ) → LastNeighbours s i j → Repeats s i j → depthAt s j < t → most ≤ get_or s (i + (length s - j)) 0
  pub no_less : (x : ℕ) → x < 16000 → ((i j : ℕ) → LastNeighbours s i j → Repeats s i j → depthAt s j < t → x ≤ get_or s (i + (length s - j)) 0) → x ≤ most
