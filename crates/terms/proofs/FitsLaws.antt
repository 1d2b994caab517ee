-- LAWS. A node fits in terms of coverings; and an embedding says where each node fits.
use mathlib.Core.Path.{◌≡◌}
use mathlib.Core.List.{List}
use Prim.Native.Nat.{ℕ, zero, suc, ◌+◌, ◌≤◌, ◌<◌}
use native.Mathlib.Omega.{arith}
use lib.ListN.{length}
use Rattle.terms.specs.Tree.{label_at, IsParent}
use Rattle.terms.specs.Assignment.{Covering}
use Rattle.terms.specs.Fits.{Fits, fits, Edge}
use Rattle.terms.proofs.PreorderLinks.{Embeds}

-- in terms of coverings
pub sat_fits : (p q : List ℕ) (i v : ℕ) → label_at p i ≡ label_at q v → Covering (Edge p q v) (IsParent p i) (length q) → Fits p q i v
unfolding Edge
sat_fits p q i v e s = fits e s.to (λ x h. (s.edge x h).0) (λ x h. (s.edge x h).1) s.inj

pub fits_sat : (p q : List ℕ) (i v : ℕ) → Fits p q i v → (label_at p i ≡ label_at q v) × Covering (Edge p q v) (IsParent p i) (length q)
unfolding Edge
fits_sat p q i v (fits e to a b c) = (e, record { to = to; inside = λ x h. (a x h).inside; edge = λ x h. (a x h, b x h); inj = c })

-- an occurrence says where each node fits
occ_fits_fuel : (n : ℕ) (p q : List ℕ) (φ : ℕ → ℕ) → Embeds p q φ → (i : ℕ) → i < length p → length p ≤ n + i → Fits p q i (φ i)
occ_fits_fuel zero p q φ o i h k = absurd (omega arith)
occ_fits_fuel (suc n) p q φ o i h k =
    fits (o.labels i h) φ (λ x r. o.parents i x h r.inside r)
    (λ x r. occ_fits_fuel n p q φ o x r.inside (omega (arith, r.before)))
    (λ x y r s e. o.inj x y r.inside s.inside e)

pub occ_fits : (p q : List ℕ) (φ : ℕ → ℕ) → Embeds p q φ → (i : ℕ) → i < length p → Fits p q i (φ i)
occ_fits p q φ o i h = occ_fits_fuel (length p) p q φ o i h (omega arith)
