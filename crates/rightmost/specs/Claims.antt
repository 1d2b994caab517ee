-- The claims on which the search rests. `BranchPlacesClaim` is proved as `branch_places_claim`, and so on (proofs/Claims).
use Rattle.std.specs.Prelude.{◌↔◌, List, [], ◌∷◌, ◌++◌, ℕ, ◌-◌, ◌%◌, ◌<◌, length}
use Rattle.terms.specs.Tree.{depthAt, IsTree}
use Rattle.terms.specs.Form.{InForm}
use Rattle.rightmost.specs.Ends.{PlacedAt, PlacedBoth, LastPlace, last_of, Up, OnBranch, IsChild, children, NewChild, Seated}
use Rattle.rightmost.specs.NextPair.{MayComeNext}

-- A node of the rightmost branch can be placed at d exactly if d is the ancestor, so many steps up, of a place of the last node.
unfoldable pub BranchPlacesClaim : Type 0
BranchPlacesClaim = (p tree : List ℕ) (e b d : ℕ) → IsTree p → OnBranch p e b
    → PlacedAt p tree b d ↔ ((w : ℕ) × LastPlace p tree w × Up tree d (depthAt p (last_of p) - e) w)

-- THE LEFTOVER CHILD. The pattern with a new leaf below b has a placing with b at d exactly if the pattern has one, and d has more children of the
-- leaf's label than b has.
unfoldable pub LeftoverChildClaim : Type 0
LeftoverChildClaim = (p tree : List ℕ) (x b d : ℕ) → NewChild p x b
    → PlacedAt (p ++ x ∷ []) tree b d ↔ (PlacedAt p tree b d × (children p b (x % 1000) < children tree d (x % 1000)))

-- The new leaf itself can be at w, with b at d, exactly if b can be at d, and the children of b of the leaf's label have places beside w.
unfoldable pub LastPlaceClaim : Type 0
LastPlaceClaim = (p tree : List ℕ) (x b d w : ℕ) → NewChild p x b
    → PlacedBoth (p ++ x ∷ []) tree b d (length p) w ↔ (PlacedAt p tree b d × IsChild tree d (x % 1000) w × Seated p tree b d (x % 1000) w)

-- A form with one pair more is a form exactly if the branch allows the pair (001, section 4.2).
unfoldable pub NextPairClaim : Type 0
NextPairClaim = (p : List ℕ) (x b : ℕ) → InForm p → NewChild p x b → InForm (p ++ x ∷ []) ↔ MayComeNext p x
