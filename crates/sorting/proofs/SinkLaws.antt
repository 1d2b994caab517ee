-- LAWS for `insertion::sink`: one sibling merged with those to its right, which are in order.
use mathlib.Core.Path.{◌≡◌, ap}
use mathlib.Core.List.{List}
use Prim.Native.Nat.{ℕ, zero, suc, ◌+◌, ◌-◌, ◌/◌, ◌≤◌, ◌<◌}
use native.Mathlib.Omega.{arith}
use native.Mathlib.Decide.{dec_lt}
use lib.ListN.{length}
use lib.Seq.{slice}
use Rattle.terms.specs.Tree.{depthAt, IsTree, SubtreeEnd}
use Rattle.terms.specs.Order.{Lighter}
use Rattle.terms.proofs.HeavySubtrees.{end_unique}
use Rattle.exchange.specs.Exchange.{Exchanged}
use Rattle.merging.specs.Merging.{Rearranged, Siblings, OrderedWithin, Passed, NextNoHeavier, TwoRuns, Ordered}
use Rattle.tree.specs.Subtrees.{AllBelow}
use Rattle.merging.proofs.CopyLaws.{Copied, pair_copied}
use Rattle.merging.proofs.SiblingLaws.{end_within, first_part, same_size, kept_none}
use Rattle.merging.proofs.MergeLaws.{Merging, unmoved_list}
use Rattle.merging.proofs.MergeLaws as merge

-- where the siblings of the node at i end that stand from it on
record SiblingsEnd (s : List ℕ) (i : ℕ) : Type 0 where
  end : ℕ
  siblings : Siblings s i end
  stop : end < length s → depthAt s end < depthAt s i

module _ (s : List ℕ) (i : ℕ) where
  -- all up to b are no less deep
  abbrev Deep : ℕ → Type 0
  Deep b = (k : ℕ) → i ≤ k → k < b → depthAt s i ≤ depthAt s k

  ends_at : (b : ℕ) → i < b → b ≤ length s → Deep b → (b < length s → depthAt s b < depthAt s i) → SiblingsEnd s i
  ends_at b l q d z = record { end = b; siblings = record { some = l; within = q; deep = d; stop = λ w. omega (arith, z w) }; stop = z }

  deep_on : (b : ℕ) → Deep b → depthAt s i ≤ depthAt s b → Deep (b + 1)
  deep_on b d h k l q = go (dec_lt k b)
    where
      go : Dec (k < b) → depthAt s i ≤ depthAt s k
      go (yes w) = d k l w
      go (no w) = let v : k ≡ b = omega arith in rw v h

  search_end : (n b : ℕ) → n + b ≡ length s → i < b → Deep b → SiblingsEnd s i
  search_end zero b e l d = ends_at b l (omega arith) d (λ w. absurd (omega arith))
  search_end (suc n) b e l d = next (dec_lt (depthAt s b) (depthAt s i)) (λ z. search_end n (b + 1) (omega arith) (omega arith) (deep_on b d (omega arith)))
    where
      next : Dec (depthAt s b < depthAt s i) → (¬ (depthAt s b < depthAt s i) → SiblingsEnd s i) → SiblingsEnd s i
      next (yes z) go = ends_at b l (omega arith) d (λ _. z)
      next (no z) go = go z

  siblings_end : i < length s → SiblingsEnd s i
  siblings_end h = search_end (length s - (i + 1)) (i + 1) (omega arith) (omega arith) (λ k l q. let e : k ≡ i = omega arith in rw e (omega arith))

module _ {s u : List ℕ} {i e c : ℕ} (tree : IsTree s) (r : SubtreeEnd s i e) (o : OrderedWithin s (i + 1) (length s)) (p : Passed s i e e (length s) c) (n : NextNoHeavier s i e (length s) c) (x : Exchanged s u i e c) (b : ℕ) (all : Siblings s i b) (stop : b < length s → depthAt s b < depthAt s i) where
  eb : e ≤ b
  eb = end_within all (omega arith) all.some r

  cb : c ≤ b
  cb = go (dec_lt b c)
    where
      go : Dec (b < c) → c ≤ b
      go (yes z) = absurd (omega (arith, stop (omega (arith, p.within)), p.deep b eb z))
      go (no z) = omega arith

  -- the subtree at i, before it moves
  own_ordered : OrderedWithin s i e
  unfolding OrderedWithin
  own_ordered k z f l q y d v = go (dec_lt i k)
    where
      go : Dec (i < k) → ¬ Lighter (slice k z s) (slice z f s)
      go (yes m) = o k z f (omega arith) (omega (arith, v.after, v.within)) y d v
      go (no m) = let t : k ≡ i = omega arith in let a : z ≡ e = end_unique (rw t at y) r in λ _. omega arith

  -- no sibling follows
  alone : b ≤ e → Ordered s u i b
  unfolding OrderedWithin
  alone h = rw (unmoved_list s u i e c x (omega (arith, cb, p.on))) (record { kept = kept_none tree all; ordered = λ k z f l q y d v. own_ordered k z f l (omega arith) y d v })

  two_runs : e < b → TwoRuns s i e b
  unfolding OrderedWithin
  two_runs h = record {
    first = record { some = r.after; within = r.within; deep = λ k l q. all.deep k l (omega arith); stop = r.stop };
    second = record { some = h; within = all.within; deep = λ k l q. omega (arith, level, all.deep k (omega (arith, r.after)) q); stop = λ q. omega (arith, level, stop q) };
    level = level;
    first_ordered = own_ordered;
    second_ordered = λ k z f l q y d v. o k z f (omega (arith, r.after)) (omega (arith, v.after, v.within)) y d v;
  }
    where
      level : depthAt s e ≡ depthAt s i
      level = omega (arith, r.stop (omega (arith, all.within)), all.deep e (omega (arith, r.after)) h)

  among : e < b → Ordered s u i b
  unfolding NextNoHeavier
  among h = go (dec_lt c b)
    where
      passed : Passed s i e e b c
      passed = record { on = p.on; within = cb; deep = p.deep; stop = λ q. p.stop (omega (arith, all.within)); last = p.last }

      step : Merging s u i (e + (c - e)) c b
      step = merge.one_more s s u i i e b e c (merge.begun s i e b tree (two_runs h)) r.after h r passed (λ f q d y. n f (omega (arith, all.within)) d y) x

      go : Dec (c < b) → Ordered s u i b
      go (yes z) = merge.first_placed step z (omega (arith, p.on))
      go (no z) = merge.second_placed step (omega (arith, cb))

  done : Ordered s u i b
  done = go (dec_lt e b)
    where
      go : Dec (e < b) → Ordered s u i b
      go (yes h) = among h
      go (no h) = alone (omega arith)

  size : length u ≡ length s
  size = same_size done.kept.rearranged

  behind : Copied s u b (length s) b (length s)
  behind = record { width = omega arith; low = all.within; source = omega arith; target = omega (arith, size); copy = λ k y h q w. let z : y ≡ k = omega arith in rw z (done.kept.behind k h) }

  level : c < b → depthAt u c ≡ depthAt u i
  level h = omega (arith, p.stop (omega (arith, all.within)), done.kept.level, done.kept.siblings.deep c (omega (arith, r.after, p.on)) h, ap (λ (m : ℕ). m / 1000) (x.behind c (omega arith)))

  to_c : Siblings u i c
  to_c = go (dec_lt c b)
    where
      go : Dec (c < b) → Siblings u i c
      go (yes h) = first_part done.kept.siblings (omega (arith, r.after, p.on)) h (level h)
      go (no h) = let w : c ≡ b = omega (arith, cb) in rw w done.kept.siblings

  sunk_to_end : Rearranged s u × OrderedWithin u i (length u) × Siblings u i c
  unfolding OrderedWithin
  sunk_to_end = (done.kept.rearranged, λ k z f l q y d v. go k z f l q y d v (dec_lt k b) (dec_lt z b), to_c)
    where
      below_b : b < length u → depthAt u b < depthAt u i
      below_b h = omega (arith, stop (omega (arith, size)), done.kept.level, ap (λ (m : ℕ). m / 1000) (done.kept.behind b (omega arith)))

      go : (k z f : ℕ) → i ≤ k → z < length u → SubtreeEnd u k z → depthAt u z ≡ depthAt u k → SubtreeEnd u z f → Dec (k < b) → Dec (z < b) → ¬ Lighter (slice k z u) (slice z f u)
      go k z f l q y d v (yes m) (yes w) = done.ordered k z f l w y d v
      go k z f l q y d v (yes m) (no w) = λ _.
          let t : z ≡ b = omega (arith, end_within done.kept.siblings l m y) in
          let a : depthAt u z ≡ depthAt u b = ap (λ (j : ℕ). depthAt u j) t in
          omega (arith, below_b (omega arith), done.kept.siblings.deep k l m)
      go k z f l q y d v (no m) _ =
          pair_copied s u b (length s) b (length s) behind 0 k z f (λ y' w g ey ew ye wd wg. o y' w g (omega (arith, all.some)) (omega (arith, wg.after, wg.within)) ye wd wg)
          (λ w. absurd (omega arith)) (omega arith) (omega (arith, v.within, size)) y d (omega arith) v

pub sunk : {s u : List ℕ} {i e c : ℕ} → IsTree s → SubtreeEnd s i e → OrderedWithin s (i + 1) (length s) → Passed s i e e (length s) c → NextNoHeavier s i e (length s) c → Exchanged s u i e c → Rearranged s u × OrderedWithin u i (length u) × Siblings u i c
sunk {s} {u} {i} tree r o p n x = let w = siblings_end s i (omega (arith, r.after, r.within)) in sunk_to_end tree r o p n x w.end w.siblings w.stop

-- below_to
pub child_below : {s : List ℕ} {i b : ℕ} → Siblings s (i + 1) b → depthAt s i < depthAt s (i + 1) → AllBelow s i b
child_below l d = record { some = omega (arith, l.some); within = l.within; below = λ k h q. omega (arith, l.deep k (omega arith) q) }

pub none_below : {s : List ℕ} {i : ℕ} → i + 1 < length s → AllBelow s i (i + 1)
none_below h = record { some = omega arith; within = omega arith; below = λ k l q. absurd (omega arith) }
