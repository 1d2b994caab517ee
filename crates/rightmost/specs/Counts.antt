-- The counts of all forms that are a pattern and one pair more, in a table over the pairs.
use Rattle.std.specs.Prelude.{◌≡◌, ◌↔◌, ◌⊎◌, List, [], ◌∷◌, ◌++◌, ℕ, suc, ◌+◌, ◌*◌, ◌%◌, ◌≤◌, ◌<◌, length, get_or}
use Rattle.terms.specs.Tree.{depthAt}
use Rattle.terms.specs.Form.{InForm}
use Rattle.terms.specs.Fleet.{vehicles}
use Rattle.occurrence.specs.Support.{whole_support}
use Rattle.rightmost.specs.Ends.{last_of, NewChild, children}
use Rattle.rightmost.specs.NextPair.{MayComeNext}
use Rattle.rightmost.specs.PlaceList.{Tally}
use Rattle.rightmost.specs.Vehicles.{NotedFrom}

-- The pairs that may stand behind a pattern are below this: none is deeper than a child of its last node.
abbrev pub top_of : List ℕ → ℕ
top_of pattern = (depthAt pattern (last_of pattern) + 2) * 1000

-- The table: the count where the longer tree is a form, 0 where it is not. From `top_of` on what it holds is free.
pub record Counts (pattern fleet counts : List ℕ) : Type 0 where
  pub forms : (x : ℕ) → InForm (pattern ++ x ∷ []) → get_or counts x 0 ≡ whole_support fleet (pattern ++ x ∷ [])
  pub others : (x : ℕ) → x < top_of pattern → ¬ InForm (pattern ++ x ∷ []) → get_or counts x 0 ≡ 0

-- The two tables while the places are gone through, n of them so far, and the pairs of a set counted: `last` has the number of the vehicle that was
-- noted last.
pub record CountsFrom (S : ℕ → Type 0) (pattern fleet table places : List ℕ) (n : ℕ) (counts last : List ℕ) : Type 0 where
  pub tallied : (x b : ℕ) → NewChild pattern x b → S x → Tally (NotedFrom pattern x b fleet table places n) (suc (length (vehicles fleet))) (get_or last x 0) (get_or counts x 0)
  pub others : (x : ℕ) → x < top_of pattern → (get_or counts x 0 ≡ 0) ⊎ ((b : ℕ) × NewChild pattern x b × S x)

-- What is kept of a node b of the branch: the heaviest pair that may come next as its child, and how many children it has of that pair.
-- Of a lighter pair it has none.
pub record AtLevel (pattern : List ℕ) (b heaviest equal : ℕ) : Type 0 where
  pub allowed : (x : ℕ) → NewChild pattern x b → MayComeNext pattern x ↔ (x ≤ heaviest)
  pub lighter : (x : ℕ) → NewChild pattern x b → x < heaviest → children pattern b (x % 1000) ≡ 0
  pub same : (x : ℕ) → NewChild pattern x b → x ≡ heaviest → children pattern b (x % 1000) ≡ equal
