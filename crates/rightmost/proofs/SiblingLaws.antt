-- LAWS. In a form the pairs of siblings never rise from left to right; so a lighter pair has no equal among them.
use mathlib.Core.Path.{◌≡◌, ap}
use mathlib.Core.List.{List}
use Prim.Native.Nat.{ℕ, zero, suc, ◌+◌, ◌/◌, ◌%◌, ◌≤◌, ◌<◌}
use native.Mathlib.Omega.{arith}
use native.Mathlib.Decide.{dec_lt, dec_le, ℕ_discrete}
use lib.ListN.{length, get_or}
use lib.Seq.{slice-cons}
use Rattle.terms.specs.Tree.{depthAt, IsTree, IsParent, SubtreeEnd}
use Rattle.terms.specs.Order.{differ}
use Rattle.terms.specs.Form.{InForm, LeftHeavy}
use Rattle.terms.proofs.LeftHeavyLaws.{left_heavy_exactly}
use Rattle.tree.proofs.SubtreeLaws.{HeavyAt, heavy_at}
use Rattle.matching.proofs.SizeLaws.{subtree_end}
use Rattle.rightmost.specs.Ends.{last_of, OnBranch, IsChild, child?, children, NewChild}
use Rattle.rightmost.proofs.Counting.{none_count}
use Rattle.rightmost.proofs.BranchLaws.{branch_deeper}

pub heavy_all : (s : List ℕ) → InForm s → (i : ℕ) → i < length s → HeavyAt s i
unfolding LeftHeavy
heavy_all s f i h = heavy_at s i ((left_heavy_exactly s f.is_tree).0 f i h)

-- the pair of the right neighbour is no heavier
neighbour_falls : (s : List ℕ) → InForm s → (i e : ℕ) → SubtreeEnd s i e → e < length s → depthAt s e ≡ depthAt s i → get_or s e 0 ≤ get_or s i 0
unfolding HeavyAt
neighbour_falls s f i e p h d = go (dec_le (get_or s e 0) (get_or s i 0)) (subtree_end s e h)
  where
    go : Dec (get_or s e 0 ≤ get_or s i 0) → (g : ℕ) × SubtreeEnd s e g → get_or s e 0 ≤ get_or s i 0
    go (yes q) _ = q
    go (no q) z = let less : get_or s i 0 < get_or s e 0 = omega arith in absurd (heavy_all s f i (omega (arith, p.after)) e z.0 p h d z.1 (rw (slice-cons i e s 0 p.after p.within, slice-cons e z.0 s 0 z.1.after z.1.within) (differ less)))

falls_fuel : (n : ℕ) (s : List ℕ) → InForm s → (b y z : ℕ) → z < n + y → IsParent s b y → IsParent s b z → y ≤ z → get_or s z 0 ≤ get_or s y 0
falls_fuel zero s f b y z q p r h = absurd (omega arith)
falls_fuel (suc n) s f b y z q p r h = go (ℕ_discrete y z) (λ e a c l. falls_fuel n s f b e z l a r c)
  where
    go : Dec (y ≡ z) → ((e : ℕ) → IsParent s b e → e ≤ z → z < n + e → get_or s z 0 ≤ get_or s e 0) → get_or s z 0 ≤ get_or s y 0
    go (yes e) g = rw e (omega arith)
    go (no ne) g = at (subtree_end s y p.inside)
      where
        at : (e : ℕ) × SubtreeEnd s y e → get_or s z 0 ≤ get_or s y 0
        at w = omega (arith, neighbour_falls s f y e t (omega (arith, to_z, r.inside)) level, g e next to_z (omega (arith, t.after)))
          where
            e : ℕ
            e = w.0

            t : SubtreeEnd s y e
            t = w.1

            to_z : e ≤ z
            to_z = up (dec_le e z)
              where
                up : Dec (e ≤ z) → e ≤ z
                up (yes l) = l
                up (no l) = absurd (omega (arith, t.deeper z (omega arith) (omega arith), p.one_deeper, r.one_deeper))

            below_b : depthAt s b < depthAt s e
            below_b = low (ℕ_discrete e z)
              where
                low : Dec (e ≡ z) → depthAt s b < depthAt s e
                low (yes l) = omega (arith, ap (depthAt s) l, r.one_deeper)
                low (no l) = r.between e (omega (arith, p.before, t.after)) (omega (arith, to_z))

            level : depthAt s e ≡ depthAt s y
            level = omega (arith, t.stop (omega (arith, to_z, r.inside)), below_b, p.one_deeper)

            next : IsParent s b e
            next = record {
              before = omega (arith, p.before, t.after);
              inside = omega (arith, to_z, r.inside);
              one_deeper = omega (arith, level, p.one_deeper);
              between = λ k a c. r.between k a (omega (arith, to_z));
            }

-- Of two children of a node the right one's pair is no heavier.
pub siblings_fall : (s : List ℕ) → InForm s → (b y z : ℕ) → IsParent s b y → IsParent s b z → y ≤ z → get_or s z 0 ≤ get_or s y 0
siblings_fall s f b y z p r h = falls_fuel (suc z) s f b y z (omega arith) p r h

-- the next node of the branch is the last child
pub branch_child : {s : List ℕ} {e b c : ℕ} → IsTree s → OnBranch s e b → OnBranch s (suc e) c → IsParent s b c
branch_child {s} {e} {b} {c} t o q = record {
  before = at (dec_lt b c) (ℕ_discrete b c);
  inside = q.inside;
  one_deeper = omega (arith, q.depth, o.depth);
  between = λ k a h. omega (arith, o.depth, branch_deeper t o k a (omega (arith, q.inside)));
}
  where
    at : Dec (b < c) → Dec (b ≡ c) → b < c
    at (yes h) _ = h
    at (no h) (yes r) = absurd (omega (arith, ap (depthAt s) r, o.depth, q.depth))
    at (no h) (no r) = absurd (omega (arith, branch_deeper t q b (omega arith) o.inside, o.depth))

pub last_child : {s : List ℕ} {e b c : ℕ} → IsTree s → OnBranch s e b → OnBranch s (suc e) c → (y : ℕ) → IsParent s b y → y ≤ c
last_child {s} {e} {b} {c} t o q y p = go (dec_le y c)
  where
    go : Dec (y ≤ c) → y ≤ c
    go (yes h) = h
    go (no h) = absurd (omega (arith, branch_deeper t q y (omega arith) p.inside, p.one_deeper, o.depth))

-- A pair lighter than that of b's last child: no child of b has its label.
pub lighter_none : {p : List ℕ} {x b c : ℕ} → InForm p → NewChild p x b → OnBranch p (x / 1000) c → x < get_or p c 0 → children p b (x % 1000) ≡ 0
unfolding children
lighter_none {p} {x} {b} {c} f e q h = none_count (child? p b (x % 1000)) (length p) none
  where
    q' : OnBranch p (suc (depthAt p b)) c
    q' = rw e.one_deeper at q

    none : (i : ℕ) → i < length p → ¬ IsChild p b (x % 1000) i
    none i l k = omega (arith, siblings_fall p f b i c k.0 (branch_child e.is_tree e.on_branch q') (last_child e.is_tree e.on_branch q' i k.0), k.0.one_deeper, k.1, e.one_deeper)

-- The last node has no children.
pub last_none : {p : List ℕ} {x b : ℕ} → NewChild p x b → b ≡ last_of p → children p b (x % 1000) ≡ 0
unfolding children
last_none {p} {x} {b} e h = none_count (child? p b (x % 1000)) (length p) (λ i l k. omega (arith, k.0.before))
