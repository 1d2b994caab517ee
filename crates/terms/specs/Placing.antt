-- Document 01, "Occurrence": placing, occurrence, the heaviest placing, where every node counts. With nodes left out: specs/LeftOut.
use Rattle.std.specs.Prelude.{◌≡◌, List, ℕ, suc, get_or}
use Rattle.terms.specs.Order.{Lighter}
use Rattle.terms.specs.Matching.{Matching}

-- "A placing sends pattern nodes to different nodes of one data tree": a matching of all pattern nodes with nodes of the tree.
abbrev pub Placing : (pattern tree tuple : List ℕ) → Type 0
Placing pattern tree tuple = Matching pattern tree tuple

-- The pattern occurs in the tree with its root at position v. "The pattern's root may land anywhere."
pub record OccursAt (pattern tree : List ℕ) (v : ℕ) : Type 0 where
  pub tuple : List ℕ
  pub placing : Placing pattern tree tuple
  pub root : get_or tuple 0 0 ≡ suc v

-- The pattern occurs in the tree.
pub record Occurs (pattern tree : List ℕ) : Type 0 where
  pub tuple : List ℕ
  pub placing : Placing pattern tree tuple

-- The heaviest placing: "the heaviest tuple of node numbers, in the pattern's preorder".
pub record HeaviestPlacing (pattern tree tuple : List ℕ) : Type 0 where
  pub placing : Placing pattern tree tuple
  pub none_heavier : (other : List ℕ) → Placing pattern tree other → ¬ Lighter tuple other
