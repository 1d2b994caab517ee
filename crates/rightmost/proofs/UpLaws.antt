-- LAWS. Ancestors: one for each number of steps; what lies between; a placing sends ancestors to ancestors, and back.
use mathlib.Core.Path.{◌≡◌, refl, sym, ap, ◌∙◌}
use mathlib.Core.List.{List}
use Prim.Native.Nat.{ℕ, zero, suc, ◌+◌, ◌≤◌, ◌<◌}
use native.Mathlib.Omega.{arith}
use native.Mathlib.Decide.{dec_lt, dec_le, ℕ_discrete}
use lib.ListN.{length}
use Rattle.terms.specs.Tree.{depthAt, IsTree, IsParent}
use Rattle.terms.proofs.PreorderLinks.{Embeds}
use Rattle.terms.proofs.EmbedsLaws.{par_unique, has_parent}
use Rattle.terms.proofs.TreeLaws.{tree_any_depth}
use Rattle.rightmost.specs.Ends.{Up, itself, above}

pub up_unique : {s : List ℕ} {d d' k w : ℕ} → Up s d k w → Up s d' k w → d ≡ d'
up_unique (itself e) (itself e') = sym e ∙ e'
up_unique {s} {d} {d'} (above {k = k} {v = v} p u) (above {v = v'} p' u') = let e : v ≡ v' = par_unique p p' in up_unique u (rw (sym e) at u')

pub up_depth : {s : List ℕ} {d k w : ℕ} → Up s d k w → depthAt s w ≡ depthAt s d + k
up_depth {s} (itself e) = rw e (omega arith)
up_depth (above p u) = omega (arith, up_depth u, p.one_deeper)

pub up_before : {s : List ℕ} {d k w : ℕ} → Up s d k w → d ≤ w
up_before (itself e) = omega arith
up_before (above p u) = omega (arith, up_before u, p.before)

-- all after the ancestor and up to the node are deeper than the ancestor
pub up_between : {s : List ℕ} {d k w : ℕ} → Up s d k w → (m : ℕ) → d < m → m ≤ w → depthAt s d < depthAt s m
up_between (itself e) m a b = absurd (omega arith)
up_between {s} {d} (above {k = k} {v = v} {w = w} p u) m a b = go (dec_le m v) (ℕ_discrete m w) (λ h. up_between u m a h)
  where
    up : depthAt s v ≡ depthAt s d + k
    up = up_depth u

    go : Dec (m ≤ v) → Dec (m ≡ w) → (m ≤ v → depthAt s d < depthAt s m) → depthAt s d < depthAt s m
    go (yes h) _ r = r h
    go (no h) (yes e) r = rw e (omega (arith, up, p.one_deeper))
    go (no h) (no e) r = omega (arith, up, p.between m (omega arith) (omega arith))

-- and the other way: so an ancestor is known by the depths between
up_of_fuel : (n : ℕ) (s : List ℕ) → IsTree s → (d w k : ℕ) → w < n → w < length s → d ≤ w → depthAt s w ≡ depthAt s d + k → ((m : ℕ) → d < m → m ≤ w → depthAt s d < depthAt s m) → Up s d k w
up_of_fuel zero s t d w k q h b e f = absurd (omega arith)
up_of_fuel (suc n) s t d w zero q h b e f = itself (go (dec_lt d w))
  where
    go : Dec (d < w) → w ≡ d
    go (yes l) = absurd (omega (arith, f w l (omega arith)))
    go (no l) = omega arith
up_of_fuel (suc n) s t d zero (suc k) q h b e f = let z : d ≡ 0 = omega arith in absurd (omega (arith, ap (depthAt s) z))
up_of_fuel (suc n) s t d (suc w) (suc k) q h b e f = above z.1 (up_of_fuel n s t d z.0 k (omega (arith, zb)) (omega (arith, zb)) (le (dec_le d z.0)) (omega (arith, z.1.one_deeper)) (λ m a c. f m a (omega (arith, zb))))
  where
    z : (i : ℕ) × IsParent s i (suc w)
    z = has_parent s (tree_any_depth t) w h

    zb : z.0 < suc w
    zb = z.1.before

    le : Dec (d ≤ z.0) → d ≤ z.0
    le (yes l) = l
    le (no l) = absurd (eq (ℕ_discrete d (suc w)))
      where
        eq : Dec (d ≡ suc w) → ⊥
        eq (yes r) = omega (arith, ap (depthAt s) r)
        eq (no r) = omega (arith, z.1.between d (omega arith) (omega arith), z.1.one_deeper)

pub up_of : (s : List ℕ) → IsTree s → (d w k : ℕ) → w < length s → d ≤ w → depthAt s w ≡ depthAt s d + k → ((m : ℕ) → d < m → m ≤ w → depthAt s d < depthAt s m) → Up s d k w
up_of s t d w k h = up_of_fuel (suc w) s t d w k (omega arith) h

-- every node of a tree is below the root
pub up_root : (s : List ℕ) → IsTree s → (w : ℕ) → w < length s → Up s 0 (depthAt s w) w
up_root s t w h = up_of s t 0 w (depthAt s w) h (omega arith) (omega (arith, t.root_depth)) (λ m a b. omega (arith, t.root_depth, deep m a b))
  where
    deep : (m : ℕ) → 0 < m → m ≤ w → 1 ≤ depthAt s m
    deep zero a b = absurd (omega arith)
    deep (suc m) a b = t.later_from_1 m (omega arith)

pub up_inside : {s : List ℕ} {d k w : ℕ} → Up s d k w → w < length s → d < length s
up_inside u h = omega (arith, up_before u)

-- one step more at the upper end
pub up_more : {s : List ℕ} {d c k w : ℕ} → Up s c k w → IsParent s d c → Up s d (suc k) w
up_more {s} {d} (itself {w = w} e) p = let q : IsParent s d w = rw e p in above q (itself refl)
up_more (above q u) p = above q (up_more u p)

-- a placing sends ancestors to ancestors
pub up_image : {p q : List ℕ} {φ : ℕ → ℕ} {d k w : ℕ} → Embeds p q φ → w < length p → Up p d k w → Up q (φ d) k (φ w)
up_image {φ = φ} o h (itself e) = itself (ap φ e)
up_image {p} {φ = φ} o h (above {v = v} {w = w} r u) = let b : v < length p = omega (arith, r.before) in above (o.parents v w b h r) (up_image o b u)
