-- What the private functions that find the heaviest placing are given and what they leave. "The placing shown is the heaviest tuple":
-- one child after the other goes to the largest place that leaves places for the rest (`CanPlace`).
use Rattle.std.specs.Prelude.{◌≡◌, Bool, true, false, List, ℕ, ◌≤◌, ◌<◌, length, get_or, set}
use Rattle.terms.specs.Tree.{IsParent, label_at}
use Rattle.terms.specs.Fits.{CanPlace}
use Rattle.matching.specs.Limits.{most_nodes_of_a_pattern}
use Rattle.matching.specs.FitsSteps.{NodeAndImage, AllMatched}

-- φ sends i to d, and the children of i before x to their places.
pub record Agrees (p : List ℕ) (i x d : ℕ) (places : List ℕ) (φ : ℕ → ℕ) : Type 0 where
  pub root : φ i ≡ d
  pub before : (y : ℕ) → IsParent p i y → y < x → φ y ≡ get_or places y 0

-- x has the largest place that it can have, where i is at d and the children before x are at their places.
pub record LargestPlace (p : List ℕ) (i x : ℕ) (q : List ℕ) (d : ℕ) (places : List ℕ) : Type 0 where
  pub placed : (φ : ℕ → ℕ) → Agrees p i x d places φ → CanPlace p q φ i x (get_or places x 0)
  pub largest : (φ : ℕ → ℕ) → Agrees p i x d places φ → (v : ℕ) → get_or places x 0 < v → ¬ CanPlace p q φ i x v

-- The children of i up to x are marked in `fixed`.
pub record RaiseInput (p : List ℕ) (i x : ℕ) (q : List ℕ) (d : ℕ) (places : List ℕ) (fixed : List Bool) : Type 0 where
  pub nodes : NodeAndImage p i q d
  pub child : IsParent p i x
  pub all_matched : AllMatched p i q d places
  pub length_marks : length fixed ≡ most_nodes_of_a_pattern
  pub up_to : (y : ℕ) → IsParent p i y → y ≤ x → get_or fixed y false ≡ true
  pub only : (y : ℕ) → get_or fixed y false ≡ true → y ≤ x

pub record Raised (p : List ℕ) (i x : ℕ) (q : List ℕ) (d : ℕ) (places places' : List ℕ) : Type 0 where
  pub all_matched : AllMatched p i q d places'
  pub kept : (y : ℕ) → IsParent p i y → y < x → get_or places' y 0 ≡ get_or places y 0
  pub at_largest : LargestPlace p i x q d places'

-- All children of i, placed at d, are at the places that they have in the heaviest placing with i at d.
pub record AllRaised (p : List ℕ) (i : ℕ) (q : List ℕ) (d : ℕ) (places : List ℕ) : Type 0 where
  pub all_matched : AllMatched p i q d places
  pub each : (x : ℕ) → IsParent p i x → LargestPlace p i x q d places

pub record RaiseAllInput (p : List ℕ) (i : ℕ) (q : List ℕ) (d : ℕ) (places : List ℕ) : Type 0 where
  pub nodes : NodeAndImage p i q d
  pub all_matched : AllMatched p i q d places

-- x, which has no place, is to have e, a child of d with its label; with another place of x all children are matched.
pub record PutInput (p : List ℕ) (i x : ℕ) (q : List ℕ) (d e : ℕ) (places : List ℕ) (fixed : List Bool) : Type 0 where
  pub call : List ℕ
  pub input : RaiseInput p i x q d call fixed
  pub without : places ≡ set call x 0
  pub place : IsParent q d e
  pub same_label : label_at p x ≡ label_at q e

-- x has e, and the children before it their places; or there is no placing like that.
pub data PutOutcome (p : List ℕ) (i x : ℕ) (q : List ℕ) (d e : ℕ) (places places' : List ℕ) : Bool → Type 0 where
  put : AllMatched p i q d places' → ((y : ℕ) → IsParent p i y → y < x → get_or places' y 0 ≡ get_or places y 0) → get_or places' x 0 ≡ e → PutOutcome p i x q d e places places' true
  cannot : places' ≡ places → ((φ : ℕ → ℕ) → Agrees p i x d places φ → ¬ CanPlace p q φ i x e) → PutOutcome p i x q d e places places' false
