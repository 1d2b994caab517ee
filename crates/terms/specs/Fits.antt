-- Document 01, "Occurrence": "A node fits if its children fit, and children fit if each node does, all in different places."
use Rattle.std.specs.Prelude.{◌≡◌, List, ℕ, ◌<◌, length}
use Rattle.terms.specs.Tree.{label_at, IsParent}
use Rattle.terms.specs.Assignment.{Covering}

-- Node i of the pattern p fits at node v of the data q: the labels are equal, and the children of i fit at different children of v.
-- That the pattern occurs with its root at v exactly if the root fits there is `fits_exactly`.
pub data Fits (p q : List ℕ) : ℕ → ℕ → Type 0 where
  fits : {i v : ℕ} → label_at p i ≡ label_at q v → (to : ℕ → ℕ) → ((x : ℕ) → IsParent p i x → IsParent q v (to x)) → ((x : ℕ) → IsParent p i x → Fits p q x (to x))
      → ((x y : ℕ) → IsParent p i x → IsParent p i y → to x ≡ to y → x ≡ y) → Fits p q i v

-- r is a place for x, a child of a node at v: a child of v where x fits.
unfoldable pub Edge : (p q : List ℕ) → ℕ → ℕ → ℕ → Type 0
Edge p q v x r = IsParent q v r × Fits p q x r

-- φ gives the place of each node. r is a place for x, a child of a, and none of a's children before i is there.
pub record Free (p q : List ℕ) (φ : ℕ → ℕ) (a i x r : ℕ) : Type 0 where
  pub child : IsParent q (φ a) r
  pub fits : Fits p q x r
  pub unused : (y : ℕ) → IsParent p a y → y < i → ¬ (φ y ≡ r)

-- Child i of a can be placed at v: it is free for i, and for the children of a after i places of their own are left.
pub record CanPlace (p q : List ℕ) (φ : ℕ → ℕ) (a i v : ℕ) : Type 0 where
  pub free : Free p q φ a i i v
  pub rest : Covering (λ x r. Free p q φ a i x r × ¬ (r ≡ v)) (λ x. IsParent p a x × (i < x)) (length q)
