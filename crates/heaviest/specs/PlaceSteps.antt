-- What the private functions that write the heaviest placing are given and what they leave in the output.
use Rattle.std.specs.Prelude.{◌≡◌, List, Option, Some, None, ℕ, suc, ◌≤◌, ◌<◌, length, get_or, drop}
use Rattle.terms.specs.Tree.{IsParent}
use Rattle.terms.specs.Fleet.{most_nodes_of_a_tree}
use Rattle.terms.specs.Matching.{placeAt}
use Rattle.terms.specs.Placing.{OccursAt}
use Rattle.terms.specs.Fits.{Fits, CanPlace}
use Rattle.matching.specs.Limits.{most_nodes_of_a_pattern}

-- v is the last node where the pattern occurs.
pub record IsLastRoot (p q : List ℕ) (v : ℕ) : Type 0 where
  pub inside : v < length q
  pub occurs : OccursAt p q v
  pub not_after : (w : ℕ) → v < w → w < length q → ¬ OccursAt p q w

-- The last node where the pattern occurs; none if it occurs nowhere.
abbrev pub LastRoot : (p q : List ℕ) → Option ℕ → Type 0
LastRoot p q None = (v : ℕ) → v < length q → ¬ OccursAt p q v
LastRoot p q (Some v) = IsLastRoot p q v

-- Only the first n numbers of the output may change.
pub record OnlyFront (n : ℕ) (output output' : List ℕ) : Type 0 where
  pub same_length : length output' ≡ length output
  pub rest : drop n output' ≡ drop n output

pub record WriteInput (places : List ℕ) (n : ℕ) (output : List ℕ) : Type 0 where
  pub length_places : length places ≡ most_nodes_of_a_pattern
  pub few : n ≤ most_nodes_of_a_pattern
  pub room : n ≤ length output
  pub small : (x : ℕ) → get_or places x 0 < most_nodes_of_a_tree

-- Those of the first n that have a place are written with its number; all else is as it was.
pub record Written (places : List ℕ) (n : ℕ) (output output' : List ℕ) : Type 0 where
  pub kept : OnlyFront n output output'
  pub placed : (x : ℕ) → x < n → ¬ (get_or places x 0 ≡ 0) → get_or output' x 0 ≡ suc (get_or places x 0)
  pub others : (x : ℕ) → get_or places x 0 ≡ 0 → get_or output' x 0 ≡ get_or output x 0

-- The root and the children of the first n pattern nodes are at their places in the heaviest placing.
pub record PlacedBefore (p q output : List ℕ) (n : ℕ) : Type 0 where
  pub root_number : 1 ≤ get_or output 0 0
  pub root_inside : placeAt output 0 < length q
  pub root_fits : Fits p q 0 (placeAt output 0)
  pub root_largest : (v : ℕ) → placeAt output 0 < v → v < length q → ¬ Fits p q 0 v
  pub numbers : (a i : ℕ) → IsParent p a i → a < n → 1 ≤ get_or output i 0
  pub placed : (a i : ℕ) → IsParent p a i → a < n → CanPlace p q (placeAt output) a i (placeAt output i)
  pub largest : (a i : ℕ) → IsParent p a i → a < n → (v : ℕ) → placeAt output i < v → ¬ CanPlace p q (placeAt output) a i v
