-- Siblings by positions: in order, passed, merged.
use Rattle.std.specs.Prelude.{◌≡◌, Bool, List, ℕ, ◌≤◌, ◌<◌, length, get_or}
use Rattle.std.proofs.Math.Seq.{slice}
use Rattle.terms.specs.Tree.{depthAt, IsTree, SubtreeEnd}
use Rattle.terms.specs.Order.{Lighter}
use Rattle.terms.specs.Matching.{SameTree}
use Rattle.terms.specs.Tells.{decided}
use Rattle.terms.proofs.OrderLaws.{lighter?}

-- t is a tree, the same unordered tree as s.
pub record Rearranged (s t : List ℕ) : Type 0 where
  pub is_tree : IsTree t
  pub same : SameTree s t

-- From a to b stand whole subtrees: that of the node at a, and those of siblings to its right.
pub record Siblings (s : List ℕ) (a b : ℕ) : Type 0 where
  pub some : a < b
  pub within : b ≤ length s
  pub deep : (k : ℕ) → a ≤ k → k < b → depthAt s a ≤ depthAt s k
  pub stop : b < length s → depthAt s b ≤ depthAt s a

-- From a on, each subtree is no lighter than its right neighbour's, if that begins before b. From 0 to the end of a tree, that is `LeftHeavy`.
unfoldable pub OrderedWithin : List ℕ → (a b : ℕ) → Type 0
OrderedWithin s a b = (k e f : ℕ) → a ≤ k → e < b → SubtreeEnd s k e → depthAt s e ≡ depthAt s k → SubtreeEnd s e f → ¬ Lighter (slice k e s) (slice e f s)

-- r tells whether the pairs from i to e are lighter than the subtree at j.
unfoldable pub LighterThanAt : List ℕ → (i e j : ℕ) → Bool → Type 0
LighterThanAt s i e j r = (f : ℕ) → SubtreeEnd s j f → r ≡ decided (lighter? (slice i e s) (slice j f s))

-- From m to c, which is b at most, nothing is less deep than the node at i; what follows before b is no deeper; the last sibling of i there is
-- no lighter than the subtree from i to e.
pub record Passed (s : List ℕ) (i e m b c : ℕ) : Type 0 where
  pub on : m ≤ c
  pub within : c ≤ b
  pub deep : (k : ℕ) → m ≤ k → k < c → depthAt s i ≤ depthAt s k
  pub stop : c < b → depthAt s c ≤ depthAt s i
  pub last : (k : ℕ) → m ≤ k → SubtreeEnd s k c → depthAt s k ≡ depthAt s i → ¬ Lighter (slice k c s) (slice i e s)

-- The subtree from i to e is no lighter than that of the sibling at c, if one is there before b.
unfoldable pub NextNoHeavier : List ℕ → (i e b c : ℕ) → Type 0
NextNoHeavier s i e b c = (f : ℕ) → c < b → depthAt s c ≡ depthAt s i → SubtreeEnd s c f → ¬ Lighter (slice i e s) (slice c f s)

-- Two runs: siblings from a to m and further ones from m to b, each in order with all that is below them.
pub record TwoRuns (s : List ℕ) (a m b : ℕ) : Type 0 where
  pub first : Siblings s a m
  pub second : Siblings s m b
  pub level : depthAt s m ≡ depthAt s a
  pub first_ordered : OrderedWithin s a m
  pub second_ordered : OrderedWithin s m b

-- t is s rearranged: the siblings from a to b, and what is below them, may stand in another order; nothing else has moved.
pub record MovedWithin (s t : List ℕ) (a b : ℕ) : Type 0 where
  pub rearranged : Rearranged s t
  pub before : (k : ℕ) → k < a → get_or t k 0 ≡ get_or s k 0
  pub behind : (k : ℕ) → b ≤ k → get_or t k 0 ≡ get_or s k 0
  pub level : depthAt t a ≡ depthAt s a
  pub siblings : Siblings t a b

-- t is s with the siblings from a to b, and all below them, in order.
pub record Ordered (s t : List ℕ) (a b : ℕ) : Type 0 where
  pub kept : MovedWithin s t a b
  pub ordered : OrderedWithin t a b
