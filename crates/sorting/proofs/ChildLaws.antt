-- LAWS for `merge_runs`: two runs merged or left, and the children in order where all are one run.
use mathlib.Core.Path.{◌≡◌, refl, sym, ap, ◌∙◌}
use mathlib.Core.Logic.{◌⊎◌, inl, inr}
use mathlib.Core.List.{List}
use Prim.Native.Nat.{ℕ, suc, ◌+◌, ◌-◌, ◌/◌, ◌≤◌, ◌<◌}
use native.Mathlib.Omega.{arith}
use native.Mathlib.Decide.{dec_lt}
use lib.ListN.{length}
use lib.Seq.{slice}
use Rattle.terms.specs.Tree.{depthAt, IsTree, SubtreeEnd}
use Rattle.terms.specs.Order.{Lighter}
use Rattle.merging.specs.Merging.{Siblings, OrderedWithin, TwoRuns, MovedWithin, Ordered}
use Rattle.sorting.specs.Sorting.{SiblingRun, HasChild, ChildrenInOrder, RunsMerged}
use Rattle.merging.proofs.CopyLaws.{Copied, depth_copied, pair_copied}
use Rattle.merging.proofs.SiblingLaws.{stops, end_within, both, same_size, kept_none, kept_twice, kept_on, wider}

-- what is below the siblings of a run is in order too
pub run_ordered : {s : List ℕ} {i a b : ℕ} → ChildrenInOrder s i → i ≤ a → SiblingRun s a b → OrderedWithin s a b
unfolding OrderedWithin ChildrenInOrder
run_ordered {s} {i} {a} {b} c h r k e f l q y d z = go (dec_lt (depthAt s a) (depthAt s k)) (dec_lt a k)
  where
    kb : k < b
    kb = omega (arith, y.after)

    go : Dec (depthAt s a < depthAt s k) → Dec (a < k) → ¬ Lighter (slice k e s) (slice e f s)
    go (no m) _ = r.ordered k e f l q (omega (arith, r.siblings.deep k l kb)) y d z
    go (yes m) (yes o) = c a k e f h o m y (omega (arith, z.after, z.within)) d z
    go (yes m) (no o) = let w : k ≡ a = omega arith in let v : depthAt s k ≡ depthAt s a = ap (λ (n : ℕ). depthAt s n) w in λ _. omega arith

-- the siblings from a to b put in order: the children of every node from n on stay so
module _ {t u : List ℕ} {n a b : ℕ} (c : ChildrenInOrder t n) (p : Siblings u n b) (na : n ≤ a) (level : depthAt u a ≡ depthAt u n) (o : Ordered t u a b) where
  size : length u ≡ length t
  size = same_size o.kept.rearranged

  before : Copied t u n a n a
  before = record { width = omega arith; low = na; source = omega (arith, size, p.within, o.kept.siblings.some); target = omega (arith, p.within, o.kept.siblings.some); copy = λ k y h q w. let z : y ≡ k = omega arith in rw z (o.kept.before k q) }

  behind : Copied t u b (length t) b (length t)
  behind = record { width = omega arith; low = omega (arith, size, p.within); source = omega arith; target = omega (arith, size); copy = λ k y h q w. let z : y ≡ k = omega arith in rw z (o.kept.behind k h) }

  module _ (j k e f : ℕ) (nj : n ≤ j) (jk : j < k) (d : depthAt u j < depthAt u k) (y : SubtreeEnd u k e) (el : e < length u) (de : depthAt u e ≡ depthAt u k) (z : SubtreeEnd u e f) where
    ab : a < b
    ab = o.kept.siblings.some

    -- a node before the siblings' end is no less deep than they are
    deep : j < b → depthAt u n ≤ depthAt u j
    deep h = p.deep j nj h

    in_before : k < a → ¬ Lighter (slice k e u) (slice e f u)
    unfolding ChildrenInOrder
    in_before h =
        let da : depthAt u a < depthAt u k = omega (arith, level, deep (omega arith)) in
        let ea : e ≤ a = stops y h (omega arith) in
        let ne : e < a = strict ea da in
        let fa : f ≤ a = stops z ne (omega arith) in
        pair_copied t u n a n a before (depthAt u n) k e f (λ y' w g ey ew ye wd wg. c j y' w g nj (omega arith) (above y' ey) ye (omega (arith, wg.after, wg.within)) wd wg)
        (λ _. omega (arith, level, o.kept.level)) (omega arith) fa y de (omega (arith, level)) z
      where
        strict : e ≤ a → depthAt u a < depthAt u k → e < a
        strict q w = go (dec_lt e a)
          where
            go : Dec (e < a) → e < a
            go (yes m) = m
            go (no m) = let v : e ≡ a = omega arith in let x : depthAt u e ≡ depthAt u a = ap (λ (i : ℕ). depthAt u i) v in absurd (omega arith)

        above : (y' : ℕ) → y' + n ≡ k + n → depthAt t j < depthAt t y'
        above y' q = omega (arith, depth_copied t u n a n a before j j nj (omega arith) (omega arith), depth_copied t u n a n a before k y' (omega arith) h (omega arith))

    in_ordered : a ≤ k → k < b → ¬ Lighter (slice k e u) (slice e f u)
    unfolding OrderedWithin
    in_ordered h q = go (dec_lt e b)
      where
        go : Dec (e < b) → ¬ Lighter (slice k e u) (slice e f u)
        go (yes m) = o.ordered k e f h m y de z
        go (no m) = λ _.
            let eb : e ≡ b = omega (arith, end_within o.kept.siblings h q y) in
            let x : depthAt u e ≡ depthAt u b = ap (λ (i : ℕ). depthAt u i) eb in
            omega (arith, o.kept.siblings.stop (omega arith), level, deep (omega arith))

    in_behind : b ≤ k → ¬ Lighter (slice k e u) (slice e f u)
    unfolding ChildrenInOrder
    in_behind h =
        pair_copied t u b (length t) b (length t) behind 0 k e f (λ y' w g ey ew ye wd wg. old y' w g ey ye wd wg (dec_lt j b)) (λ q. absurd (omega arith)) h (omega (arith, z.within, size)) y de (omega arith) z
      where
        depth_k : (y' : ℕ) → y' + b ≡ k + b → depthAt u k ≡ depthAt t y'
        depth_k y' q = depth_copied t u b (length t) b (length t) behind k y' h (omega (arith, size)) (omega arith)

        old : (y' w g : ℕ) → y' + b ≡ k + b → SubtreeEnd t y' w → depthAt t w ≡ depthAt t y' → SubtreeEnd t w g → Dec (j < b) → ¬ Lighter (slice y' w t) (slice w g t)
        old y' w g q ye wd wg (no m) =
            c j y' w g nj (omega arith) (omega (arith, depth_k y' q, depth_copied t u b (length t) b (length t) behind j j (omega arith) (omega (arith, size)) (omega arith))) ye (omega (arith, wg.after, wg.within)) wd wg
        old y' w g q ye wd wg (yes m) =
            let db : depthAt u b < depthAt u k = omega (arith, o.kept.siblings.stop (omega arith), level, deep m) in
            let bk : b < k = later db (dec_lt b k) in
            c b y' w g (omega (arith, na)) (omega arith) (omega (arith, depth_k y' q, depth_copied t u b (length t) b (length t) behind b b (omega arith) (omega (arith, size)) (omega arith))) ye (omega (arith, wg.after, wg.within)) wd wg
          where
            later : depthAt u b < depthAt u k → Dec (b < k) → b < k
            later v (yes i) = i
            later v (no i) = let r : k ≡ b = omega arith in let x : depthAt u k ≡ depthAt u b = ap (λ (i : ℕ). depthAt u i) r in absurd (omega arith)

  pub children_kept : ChildrenInOrder u n
  unfolding ChildrenInOrder
  children_kept j k e f nj jk d y el de z = go (dec_lt k a) (dec_lt k b)
    where
      go : Dec (k < a) → Dec (k < b) → ¬ Lighter (slice k e u) (slice e f u)
      go (yes h) _ = in_before j k e f nj jk d y el de z h
      go (no h) (yes q) = in_ordered j k e f nj jk d y el de z (omega arith) q
      go (no h) (no q) = in_behind j k e f nj jk d y el de z (omega arith)

-- the children of i are one run: those of every node from i on are in order
pub children_one_run : {t : List ℕ} {i m : ℕ} → IsTree t → HasChild t i → ChildrenInOrder t (i + 1) → Siblings t (i + 1) m → OrderedWithin t (i + 1) m → (m < length t → depthAt t m < depthAt t (i + 1)) → ChildrenInOrder t i
unfolding ChildrenInOrder OrderedWithin
children_one_run {t} {i} {m} tree p c r o stop j k e f ij jk d y el de z = go (dec_lt i j) (dec_lt k m) (dec_lt e m)
  where
    next : depthAt t (i + 1) ≤ suc (depthAt t i)
    next = let w : suc i ≡ i + 1 = omega arith in rw w at (tree.later_to_next i (omega (arith, p.inside)))

    parent : ¬ (i < j) → depthAt t i < depthAt t k
    parent n = let w : j ≡ i = omega arith in rw w at d

    go : Dec (i < j) → Dec (k < m) → Dec (e < m) → ¬ Lighter (slice k e t) (slice e f t)
    go (yes n) _ _ = c j k e f (omega arith) jk d y el de z
    go (no n) (yes q) (yes h) = o k e f (omega arith) h y de z
    go (no n) (yes q) (no h) = λ _.
        let em : e ≡ m = omega (arith, end_within r (omega arith) q y) in
        let x : depthAt t e ≡ depthAt t m = ap (λ (v : ℕ). depthAt t v) em in
        omega (arith, stop (omega arith), r.deep k (omega arith) q)
    go (no n) (no q) _ = c m k e f (omega (arith, r.some)) (later (dec_lt m k)) below y el de z
      where
        ml : m < length t
        ml = omega (arith, y.after)

        below : depthAt t m < depthAt t k
        below = omega (arith, stop ml, next, parent n)

        later : Dec (m < k) → m < k
        later (yes v) = v
        later (no v) = let w : k ≡ m = omega arith in let x : depthAt t k ≡ depthAt t m = ap (λ (v : ℕ). depthAt t v) w in absurd (omega (arith, below))

-- t is s with children of the node at i moved; those up to m were looked at, those from a to m are a run
pub record Runs (s t : List ℕ) (i limit a m fewest : ℕ) : Type 0 where
  pub tree : IsTree s
  pub kept : MovedWithin s t (i + 1) m
  pub parent : HasChild t i
  pub later : ChildrenInOrder t (i + 1)
  pub low : i + 1 ≤ a
  pub level : depthAt t a ≡ depthAt t (i + 1)
  pub run : Siblings t a m
  pub ordered : OrderedWithin t a m
  pub whole : fewest ≡ 0 → a ≡ i + 1
  pub more : 0 < fewest → (limit < fewest) × (fewest ≤ length s)

pub begun : {s : List ℕ} {i m : ℕ} (limit : ℕ) → IsTree s → HasChild s i → ChildrenInOrder s (i + 1) → SiblingRun s (i + 1) m → Runs s s i limit (i + 1) m 0
begun limit t p c r = record {
  tree = t;
  kept = kept_none t r.siblings;
  parent = p;
  later = c;
  low = omega arith;
  level = refl;
  run = r.siblings;
  ordered = run_ordered c (omega arith) r;
  whole = λ _. refl;
  more = λ h. absurd (omega arith);
}

module _ {s t : List ℕ} {i limit a m fewest : ℕ} (g : Runs s t i limit a m fewest) where
  pub sizes : length t ≡ length s
  sizes = same_size g.kept.rearranged

  pub is_tree : IsTree t
  is_tree = g.kept.rearranged.is_tree

  -- more children follow
  module _ (ml : m < length t) (d : depthAt t (i + 1) ≤ depthAt t m) {b : ℕ} (r : SiblingRun t m b) where
    at_m : depthAt t m ≡ depthAt t (i + 1)
    at_m = omega (arith, g.kept.siblings.stop ml)

    all : Siblings t (i + 1) b
    all = both g.kept.siblings r.siblings at_m

    second : OrderedWithin t m b
    second = run_ordered g.later (omega (arith, g.low, g.run.some)) r

    pub bounds : (i + 1 < length t) × (a ≤ b) × (b ≤ length t)
    bounds = (g.parent.inside, omega (arith, g.run.some, r.siblings.some), r.siblings.within)

    pub two_runs : IsTree t × TwoRuns t a m b
    two_runs = (is_tree, record { first = g.run; second = r.siblings; level = at_m ∙ sym g.level; first_ordered = g.ordered; second_ordered = second })

    pub merged : {u : List ℕ} → Ordered t u a b → Runs s u i limit a b fewest
    merged {u} o = record {
      tree = g.tree;
      kept = kept_twice g.tree (kept_on g.kept all (omega (arith, r.siblings.some))) moved;
      parent = record { inside = omega (arith, g.parent.inside, same_size o.kept.rearranged); deeper = omega (arith, g.parent.deeper, moved.level, ap (λ (n : ℕ). n / 1000) (moved.before i (omega arith))) };
      later = children_kept g.later moved.siblings g.low top o;
      low = g.low;
      level = top;
      run = o.kept.siblings;
      ordered = o.ordered;
      whole = g.whole;
      more = g.more;
    }
      where
        moved : MovedWithin t u (i + 1) b
        moved = wider all g.low (omega arith) o.kept

        top : depthAt u a ≡ depthAt u (i + 1)
        top = o.kept.level ∙ g.level ∙ sym moved.level

    pub left : {r' : ℕ} → limit < b - a → (r' ≡ b - a) ⊎ ((r' ≡ fewest) × (0 < fewest)) → Runs s t i limit m b r'
    left {r'} h w = record {
      tree = g.tree;
      kept = kept_on g.kept all (omega (arith, r.siblings.some));
      parent = g.parent;
      later = g.later;
      low = omega (arith, g.low, g.run.some);
      level = at_m;
      run = r.siblings;
      ordered = second;
      whole = λ e. absurd (nonzero w e);
      more = λ _. more w;
    }
      where
        nonzero : (r' ≡ b - a) ⊎ ((r' ≡ fewest) × (0 < fewest)) → r' ≡ 0 → ⊥
        nonzero (inl q) e = omega arith
        nonzero (inr q) e = omega (arith, q.0, q.1)

        more : (r' ≡ b - a) ⊎ ((r' ≡ fewest) × (0 < fewest)) → (limit < r') × (r' ≤ length s)
        more (inl q) = (omega arith, omega (arith, r.siblings.within, sizes))
        more (inr q) = let v = g.more q.1 in (omega (arith, v.0, q.0), omega (arith, v.1, q.0))

  -- no more follow
  pub ended : (m < length t → depthAt t m < depthAt t (i + 1)) → RunsMerged s t i limit fewest
  ended stop = record {
    rearranged = g.kept.rearranged;
    parent = g.parent;
    later = g.later;
    done = λ e. children_one_run is_tree g.parent g.later g.kept.siblings (let w : a ≡ i + 1 = g.whole e in rw w at g.ordered) stop;
    more = g.more;
  }
