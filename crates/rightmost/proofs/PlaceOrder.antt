-- LAWS. The order of places: kept by ancestors and by children; vehicles never fall; so many places at most.
use mathlib.Core.Path.{◌≡◌, refl, sym, ap, ◌∙◌}
use mathlib.Core.Logic.{◌⊎◌, inl, inr, ⊎_elim}
use mathlib.Core.List.{List}
use Prim.Native.Nat.{ℕ, suc, ◌-◌, ◌≤◌, ◌<◌}
use native.Mathlib.Omega.{arith}
use native.Mathlib.Decide.{dec_lt, dec_le, ℕ_discrete}
use lib.ListN.{length, get_or}
use Rattle.terms.specs.Tree.{depthAt, IsParent}
use Rattle.terms.proofs.Pigeonhole.{pigeonhole}
use Rattle.terms.proofs.EmbedsLaws.{par_unique}
use Rattle.rightmost.specs.Ends.{Up, itself, above}
use Rattle.rightmost.specs.PlaceList.{Before, InOrder}
use Rattle.rightmost.proofs.UpLaws.{up_unique, up_depth, up_before, up_between}

-- a lower ancestor and a higher one
pub up_split : {s : List ℕ} {d r j k w : ℕ} → Up s d j w → Up s r k w → j ≤ k → Up s r (k - j) d
up_split {s} {d} {r} {k = k} (itself e) u h = let z : k - 0 ≡ k = omega arith in rw (z, sym e) u
up_split (above p u) (itself e) h = absurd (omega arith)
up_split {s} {d} {r} (above {k = j} {v = v} p u) (above {k = k} {v = v'} p' u') h =
    let z : suc k - suc j ≡ k - j = omega arith in
    let e : v' ≡ v = par_unique p' p in
    let y : Up s r (k - j) d = up_split u (rw e at u') (omega arith) in
    rw z y

-- of equal depth, neither above the other
apart : {s : List ℕ} {c d k w : ℕ} → Up s d k w → c ≤ w → depthAt s c ≡ depthAt s d → c ≤ d
apart {s} {c} {d} u h e = go (dec_le c d)
  where
    go : Dec (c ≤ d) → c ≤ d
    go (yes l) = l
    go (no l) = absurd (omega (arith, up_between u c (omega arith) h))

pub before_irrefl : {s : List ℕ} {k v : ℕ} → ¬ Before s k v v
before_irrefl z = ⊎_elim (λ h. omega (arith, up_unique z.up_v z.up_w)) (λ h. let l = h.1 in omega arith) z.order

pub before_trans : {s : List ℕ} {k u v w : ℕ} → Before s k u v → Before s k v w → Before s k u w
before_trans {s} {k} {u} {v} {w} a b = record { root_v = a.root_v; root_w = b.root_w; up_v = a.up_v; up_w = b.up_w; order = go a.order b.order }
  where
    e : a.root_w ≡ b.root_v
    e = up_unique a.up_w b.up_v

    go : (a.root_v < a.root_w) ⊎ ((a.root_v ≡ a.root_w) × (u < v)) → (b.root_v < b.root_w) ⊎ ((b.root_v ≡ b.root_w) × (v < w)) → (a.root_v < b.root_w) ⊎ ((a.root_v ≡ b.root_w) × (u < w))
    go (inl h) (inl l) = inl (omega (arith, e))
    go (inl h) (inr l) = let y = l.0 in inl (omega (arith, e))
    go (inr h) (inl l) = let y = h.0 in inl (omega (arith, e))
    go (inr h) (inr l) = let y = h.1 in let z = l.1 in inr (h.0 ∙ e ∙ l.0, omega arith)

-- nodes of one depth under one root, as roots themselves: by position
pub before_roots : {s : List ℕ} {v w : ℕ} → v < w → Before s 0 v w
before_roots {v = v} {w = w} h = record { root_v = v; root_w = w; up_v = itself refl; up_w = itself refl; order = inl h }

-- ANCESTORS of places in order are in order, or one
pub before_up : {s : List ℕ} {k v w j c d : ℕ} → Before s k v w → j ≤ k → Up s c j v → Up s d j w → (c ≡ d) ⊎ Before s (k - j) c d
before_up {s} {k} {v} {w} {j} {c} {d} z h uc ud = go z.order (dec_lt c d) (ℕ_discrete c d)
  where
    rc : Up s z.root_v (k - j) c
    rc = up_split uc z.up_v h

    rd : Up s z.root_w (k - j) d
    rd = up_split ud z.up_w h

    go : (z.root_v < z.root_w) ⊎ ((z.root_v ≡ z.root_w) × (v < w)) → Dec (c < d) → Dec (c ≡ d) → (c ≡ d) ⊎ Before s (k - j) c d
    go (inl o) _ _ = inr (record { root_v = z.root_v; root_w = z.root_w; up_v = rc; up_w = rd; order = inl o })
    go (inr o) (yes l) _ = inr (record { root_v = z.root_v; root_w = z.root_w; up_v = rc; up_w = rd; order = inr (o.0, l) })
    go (inr o) (no l) (yes e) = inl e
    go (inr o) (no l) (no e) =
        let same : depthAt s c ≡ depthAt s d = omega (arith, up_depth rc, up_depth rd, ap (depthAt s) o.0) in
        let less = o.1 in
        absurd (omega (arith, apart ud (omega (arith, up_before uc)) same))

-- CHILDREN of nodes in order are in order
pub before_child : {s : List ℕ} {k c d v w : ℕ} → Before s k c d → IsParent s c v → IsParent s d w → Before s (suc k) v w
before_child {s} {k} {c} {d} {v} {w} z p q = record { root_v = z.root_v; root_w = z.root_w; up_v = above p z.up_v; up_w = above q z.up_w; order = go z.order }
  where
    go : (z.root_v < z.root_w) ⊎ ((z.root_v ≡ z.root_w) × (c < d)) → (z.root_v < z.root_w) ⊎ ((z.root_v ≡ z.root_w) × (v < w))
    go (inl o) = inl o
    go (inr o) = inr (o.0, at (dec_lt v w))
      where
        less : c < d
        less = o.1

        same : depthAt s c ≡ depthAt s d
        same = omega (arith, up_depth z.up_v, up_depth z.up_w, ap (depthAt s) o.0)

        at : Dec (v < w) → v < w
        at (yes l) = l
        at (no l) = absurd (omega (arith, same, p.between d less (omega (arith, q.before))))

pub before_siblings : {s : List ℕ} {k r d v w : ℕ} → Up s r k d → IsParent s d v → IsParent s d w → v < w → Before s (suc k) v w
before_siblings {r = r} u p q h = record { root_v = r; root_w = r; up_v = above p u; up_w = above q u; order = inr (refl, h) }

-- SO MANY at most as there are nodes
pub few_places : (s : List ℕ) (k n : ℕ) (places : List ℕ) → InOrder s k places → ((i : ℕ) → i < length places → get_or places i 0 < n) → length places ≤ n
few_places s k n places o f = go (dec_le (length places) n)
  where
    go : Dec (length places ≤ n) → length places ≤ n
    go (yes h) = h
    go (no h) = absurd (pigeonhole n (λ i. get_or places i 0) (λ i l. f i (omega arith)) inj)
      where
        inj : (i j : ℕ) → i ≤ n → j ≤ n → get_or places i 0 ≡ get_or places j 0 → i ≡ j
        inj i j a b e = at (dec_lt i j) (dec_lt j i)
          where
            at : Dec (i < j) → Dec (j < i) → i ≡ j
            at (yes l) _ = absurd (before_irrefl (rw e at (o i j l (omega arith))))
            at (no l) (yes m) = absurd (before_irrefl (rw e at (o j i m (omega arith))))
            at (no l) (no m) = omega arith
