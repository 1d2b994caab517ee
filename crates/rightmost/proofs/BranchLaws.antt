-- LAWS. The rightmost branch: a placing puts its nodes at the ancestors of the last node's place.
use mathlib.Core.Path.{◌≡◌, refl, ap, ◌∙◌}
use mathlib.Core.List.{List}
use mathlib.Core.Logic.{◌↔◌}
use Prim.Native.Nat.{ℕ, zero, suc, ◌+◌, ◌-◌, ◌≤◌, ◌<◌}
use native.Mathlib.Omega.{arith}
use native.Mathlib.Decide.{dec_lt, ℕ_discrete}
use lib.ListN.{length}
use Rattle.terms.specs.Tree.{depthAt, IsTree}
use Rattle.terms.specs.Matching.{placeAt}
use Rattle.terms.specs.Placing.{Occurs, Placing}
use Rattle.terms.proofs.PreorderLinks.{Embeds}
use Rattle.terms.proofs.MatchingLaws.{placing_occ, occ_placing, numbers, numbers_at}
use Rattle.rightmost.specs.Ends.{PlacedAt, LastPlace, last_of, Up, OnBranch}
use Rattle.rightmost.proofs.UpLaws.{up_unique, up_of, up_image}

-- PLACES AS MAPS

pub record Maps (pattern tree : List ℕ) (node place : ℕ) : Type 0 where
  pub map : ℕ → ℕ
  pub embeds : Embeds pattern tree map
  pub there : map node ≡ place

pub placed_maps : {p q : List ℕ} {i v : ℕ} → PlacedAt p q i v → Maps p q i v
placed_maps z = record { map = placeAt z.tuple; embeds = placing_occ z.placing; there = omega (arith, z.there) }

pub maps_placed : {p q : List ℕ} {i v : ℕ} → IsTree p → i < length p → Maps p q i v → PlacedAt p q i v
maps_placed {p} t h z = record { tuple = numbers (length p) z.map; placing = occ_placing t z.embeds; there = numbers_at (length p) z.map _ h ∙ ap suc z.there }

pub last_inside : (s : List ℕ) → IsTree s → last_of s < length s
last_inside s t = omega (arith, t.has_root)

-- a pattern occurs exactly if its last node has a place
pub occurs_exactly : {p q : List ℕ} → IsTree p → Occurs p q ↔ ((w : ℕ) × LastPlace p q w)
occurs_exactly {p} {q} t = (to, λ z. record { tuple = z.1.tuple; placing = z.1.placing })
  where
    to : Occurs p q → (w : ℕ) × LastPlace p q w
    to o = (placeAt o.tuple (last_of p), record { tuple = o.tuple; placing = o.placing; there = omega (arith, o.placing.from_1 (last_of p) (last_inside p t)) })

-- THE BRANCH

-- what follows a node of the branch is deeper than it
climbs : (n : ℕ) (s : List ℕ) → IsTree s → (e k : ℕ) → k + n ≡ last_of s → depthAt s k < e → e ≤ depthAt s (last_of s) → (m : ℕ) × (k < m) × (m ≤ last_of s) × (depthAt s m ≡ e)
climbs zero s t e k b l h = let q : k ≡ last_of s = omega arith in absurd (omega (arith, ap (depthAt s) q))
climbs (suc n) s t e k b l h = go (ℕ_discrete (depthAt s (suc k)) e) (λ q. climbs n s t e (suc k) (omega arith) q h)
  where
    up : depthAt s (suc k) ≤ suc (depthAt s k)
    up = t.later_to_next k (omega (arith, t.has_root))

    go : Dec (depthAt s (suc k) ≡ e) → (depthAt s (suc k) < e → (m : ℕ) × (suc k < m) × (m ≤ last_of s) × (depthAt s m ≡ e)) → (m : ℕ) × (k < m) × (m ≤ last_of s) × (depthAt s m ≡ e)
    go (yes q) f = (suc k, omega arith, omega arith, q)
    go (no q) f = let z = f (omega (arith, up)) in let a = z.1 in (z.0, omega arith, z.2, z.3)

pub branch_deeper : {s : List ℕ} {e b : ℕ} → IsTree s → OnBranch s e b → (k : ℕ) → b < k → k < length s → e < depthAt s k
branch_deeper {s} {e} {b} t o k h l = go (dec_lt e (depthAt s k)) (ℕ_discrete (depthAt s k) e)
  where
    go : Dec (e < depthAt s k) → Dec (depthAt s k ≡ e) → e < depthAt s k
    go (yes q) _ = q
    go (no q) (yes r) = absurd (o.none_later k h l r)
    go (no q) (no r) =
        let z = climbs (last_of s - k) s t e k (omega (arith, t.has_root)) (omega arith) o.no_deeper in
        let a = z.1 in let c = z.2 in
        absurd (o.none_later z.0 (omega arith) (omega (arith, t.has_root)) z.3)

-- and the other way: a node is on the branch if all that follow are deeper
pub branch_of_deeper : (s : List ℕ) (b : ℕ) → b < length s → ((k : ℕ) → b < k → k < length s → depthAt s b < depthAt s k) → OnBranch s (depthAt s b) b
branch_of_deeper s b h f = record { inside = h; depth = refl; no_deeper = low (dec_lt b (last_of s)); none_later = λ k a l e. omega (arith, f k a l) }
  where
    low : Dec (b < last_of s) → depthAt s b ≤ depthAt s (last_of s)
    low (yes q) = omega (arith, f (last_of s) q (omega arith))
    low (no q) = let e : b ≡ last_of s = omega arith in omega (arith, ap (depthAt s) e)

-- one node for each depth
pub branch_unique : {s : List ℕ} {e b c : ℕ} → OnBranch s e b → OnBranch s e c → b ≡ c
branch_unique {b = b} {c = c} o p = go (dec_lt b c) (dec_lt c b)
  where
    go : Dec (b < c) → Dec (c < b) → b ≡ c
    go (yes h) _ = absurd (o.none_later c h p.inside p.depth)
    go (no h) (yes k) = absurd (p.none_later b k o.inside o.depth)
    go (no h) (no k) = omega arith

-- the last node is the deepest of the branch, the root its first
pub branch_last : (s : List ℕ) → IsTree s → OnBranch s (depthAt s (last_of s)) (last_of s)
branch_last s t = branch_of_deeper s (last_of s) (last_inside s t) (λ k a b. absurd (omega (arith, t.has_root)))

pub branch_root : (s : List ℕ) → IsTree s → OnBranch s 0 0
branch_root s t = rw t.root_depth at (branch_of_deeper s 0 t.has_root deep)
  where
    deep : (k : ℕ) → 0 < k → k < length s → depthAt s 0 < depthAt s k
    deep zero a b = absurd (omega arith)
    deep (suc k) a b = omega (arith, t.root_depth, t.later_from_1 k b)

-- the nodes of the branch are the ancestors of the last node
pub branch_up : {s : List ℕ} {e b : ℕ} → IsTree s → OnBranch s e b → Up s b (depthAt s (last_of s) - e) (last_of s)
branch_up {s} {e} {b} t o = up_of s t b (last_of s) (depthAt s (last_of s) - e) (last_inside s t) (omega (arith, o.inside)) (omega (arith, o.depth, o.no_deeper)) (λ m h k. omega (arith, o.depth, branch_deeper t o m h (omega (arith, t.has_root))))

-- THEOREM 1. A placing puts the node of depth e on the branch at the ancestor, so many steps up, of the last node's place.
pub branch_place : {p q tuple : List ℕ} {e b : ℕ} → IsTree p → OnBranch p e b → Placing p q tuple → Up q (placeAt tuple b) (depthAt p (last_of p) - e) (placeAt tuple (last_of p))
branch_place {p} t o z = up_image (placing_occ z) (last_inside p t) (branch_up t o)

-- So its places are exactly those ancestors of the last node's places.
pub branch_exactly : {p q : List ℕ} {e b d : ℕ} → IsTree p → OnBranch p e b → PlacedAt p q b d ↔ ((w : ℕ) × LastPlace p q w × Up q d (depthAt p (last_of p) - e) w)
branch_exactly {p} {q} {e} {b} {d} t o = (to, from)
  where
    to : PlacedAt p q b d → (w : ℕ) × LastPlace p q w × Up q d (depthAt p (last_of p) - e) w
    to z =
        let there : placeAt z.tuple b ≡ d = omega (arith, z.there) in
        (placeAt z.tuple (last_of p), record { tuple = z.tuple; placing = z.placing; there = omega (arith, z.placing.from_1 (last_of p) (last_inside p t)) }, rw there at (branch_place t o z.placing))

    from : (w : ℕ) × LastPlace p q w × Up q d (depthAt p (last_of p) - e) w → PlacedAt p q b d
    from z =
        let l = z.1 in
        let last : placeAt l.tuple (last_of p) ≡ z.0 = omega (arith, l.there) in
        let same : d ≡ placeAt l.tuple b = up_unique z.2 (rw last at (branch_place t o l.placing)) in
        record { tuple = l.tuple; placing = l.placing; there = omega (arith, same, l.placing.from_1 b o.inside) }
