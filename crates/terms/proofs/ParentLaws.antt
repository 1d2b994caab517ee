-- LAWS. In a tree the parent is the nearest earlier node that is one less deep; each node but the root has one.
use mathlib.Core.Path.{◌≡◌, sym, ap, ◌∙◌}
use mathlib.Core.List.{List}
use Prim.Native.Nat.{ℕ, zero, suc, ◌+◌, ◌-◌, ◌≤◌, ◌<◌}
use native.Mathlib.Omega.{arith}
use native.Mathlib.Decide.{dec_lt, ℕ_discrete}
use lib.ListN.{length}
use Rattle.terms.specs.Tree.{depthAt, IsTree, IsParent, Nearest}
use Rattle.terms.specs.Claims.{ParentNearest, OneParent}
use Rattle.terms.proofs.EmbedsLaws.{has_parent, par_unique}
use Rattle.terms.proofs.TreeLaws.{tree_any_depth}

-- depths rise by one at most: on the way from below d to above d there is a node at d
climb : (s : List ℕ) → IsTree s → (d n k : ℕ) → k + n < length s → depthAt s k < d → d < depthAt s (k + n) → (m : ℕ) × (k < m) × (m < k + n) × (depthAt s m ≡ d)
climb s t d zero k b l h = let e : k + 0 ≡ k = omega arith in absurd (omega (arith, ap (depthAt s) e))
climb s t d (suc n) k b l h = go (ℕ_discrete (depthAt s (suc k)) d) (λ q. climb s t d n (suc k) (omega arith) q (rw e at h))
  where
    e : k + suc n ≡ suc k + n
    e = omega arith

    up : depthAt s (suc k) ≤ suc (depthAt s k)
    up = t.later_to_next k (omega arith)

    go : Dec (depthAt s (suc k) ≡ d) → (depthAt s (suc k) < d → (m : ℕ) × (suc k < m) × (m < suc k + n) × (depthAt s m ≡ d)) → (m : ℕ) × (k < m) × (m < k + suc n) × (depthAt s m ≡ d)
    go (yes q) f = (suc k, omega arith, last (ℕ_discrete n 0), q)
      where
        last : Dec (n ≡ 0) → suc k < k + suc n
        last (yes z) = let w : k + suc n ≡ suc k = omega arith in absurd (omega (arith, ap (depthAt s) w))
        last (no z) = omega arith
    go (no q) f = let z = f (omega (arith, up)) in let a = z.1 in let b' = z.2 in (z.0, omega arith, omega arith, z.3)

pub parent_nearest : ParentNearest
parent_nearest s i j t = (to, from)
  where
    to : IsParent s i j → Nearest s i j
    to p = record { before = p.before; inside = p.inside; one_deeper = p.one_deeper; none_nearer = λ k a b e. omega (arith, p.between k a b, p.one_deeper) }

    from : Nearest s i j → IsParent s i j
    from n = record { before = n.before; inside = n.inside; one_deeper = n.one_deeper; between = λ k a b. deeper k a b (dec_lt (depthAt s i) (depthAt s k)) (ℕ_discrete (depthAt s i) (depthAt s k)) }
      where
        deeper : (k : ℕ) → i < k → k < j → Dec (depthAt s i < depthAt s k) → Dec (depthAt s i ≡ depthAt s k) → depthAt s i < depthAt s k
        deeper k a b (yes q) _ = q
        deeper k a b (no q) (yes r) = absurd (n.none_nearer k a b (n.one_deeper ∙ ap suc r))
        deeper k a b (no q) (no r) = absurd (far (climb s t (depthAt s i) (j - k) k (omega (arith, n.inside)) (omega arith) (rw w (omega (arith, n.one_deeper)))))
          where
            w : k + (j - k) ≡ j
            w = omega arith

            far : (m : ℕ) × (k < m) × (m < k + (j - k)) × (depthAt s m ≡ depthAt s i) → ⊥
            far z = let a' = z.1 in let b' = z.2 in n.none_nearer z.0 (omega arith) (omega arith) (n.one_deeper ∙ ap suc (sym z.3))

pub one_parent : OneParent
one_parent s t j h = let z = has_parent s (tree_any_depth t) j h in (z.0, z.1, λ k p. par_unique p z.1)
