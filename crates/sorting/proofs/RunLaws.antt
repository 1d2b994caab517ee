-- LAWS for `heavier_than_left` and `run_end`: two neighbours compared, one node more looked at, and each way out.
use mathlib.Core.Path.{◌≡◌, refl, sym, ◌∙◌}
use mathlib.Core.Bool.{Bool, true, false}
use mathlib.Core.List.{List}
use Prim.Native.Nat.{ℕ, ◌+◌, ◌≤◌, ◌<◌}
use native.Mathlib.Omega.{arith}
use native.Mathlib.Decide.{dec_lt}
use lib.ListN.{length, get_or}
use lib.Seq.{slice}
use Rattle.terms.specs.Tree.{depthAt, SubtreeEnd}
use Rattle.terms.specs.Order.{Lighter}
use Rattle.terms.proofs.DecidedLaws.{said_no}
use Rattle.terms.proofs.OrderLaws.{lighter?}
use Rattle.tree.proofs.LighterSteps.{less, greater}
use Rattle.merging.specs.Merging.{LighterThanAt}
use Rattle.sorting.specs.Sorting.{SiblingRun}

module _ {s : List ℕ} {i j : ℕ} (y : SubtreeEnd s i j) where
  pub first_less : get_or s i 0 < get_or s j 0 → LighterThanAt s i j j true
  unfolding LighterThanAt
  first_less h f z = less s i j j f y.within z.within y.after z.after h

  pub first_greater : get_or s j 0 < get_or s i 0 → LighterThanAt s i j j false
  unfolding LighterThanAt
  first_greater h f z = greater s i j j f y.within z.within y.after z.after h

-- the siblings from a on up to the one at `last` are a run, and what follows that one up to c is below it
pub record Running (s : List ℕ) (a last c : ℕ) : Type 0 where
  pub low : a ≤ last
  pub after : last < c
  pub within : c ≤ length s
  pub level : depthAt s last ≡ depthAt s a
  pub deep : (k : ℕ) → a ≤ k → k < c → depthAt s a ≤ depthAt s k
  pub below : (k : ℕ) → last < k → k < c → depthAt s last < depthAt s k
  pub ordered : (k e f : ℕ) → a ≤ k → e ≤ last → depthAt s k ≡ depthAt s a → SubtreeEnd s k e → depthAt s e ≡ depthAt s k → SubtreeEnd s e f → ¬ Lighter (slice k e s) (slice e f s)

pub begun : (s : List ℕ) (a : ℕ) → a < length s → Running s a a (a + 1)
begun s a h = record {
  low = omega arith;
  after = omega arith;
  within = omega arith;
  level = refl;
  deep = λ k l q. let e : k ≡ a = omega arith in rw e (omega arith);
  below = λ k l q. absurd (omega arith);
  ordered = λ k e f l q d y. absurd (omega (arith, y.after));
}

module _ {s : List ℕ} {a last c : ℕ} (p : Running s a last c) where
  -- a node below the last sibling
  pub deeper_on : c < length s → depthAt s a < depthAt s c → Running s a last (c + 1)
  deeper_on h d = record {
    low = p.low;
    after = omega (arith, p.after);
    within = omega arith;
    level = p.level;
    deep = λ k l q. deep k l q (dec_lt k c);
    below = λ k l q. below k l q (dec_lt k c);
    ordered = p.ordered;
  }
    where
      deep : (k : ℕ) → a ≤ k → k < c + 1 → Dec (k < c) → depthAt s a ≤ depthAt s k
      deep k l q (yes z) = p.deep k l z
      deep k l q (no z) = let e : k ≡ c = omega arith in rw e (omega arith)

      below : (k : ℕ) → last < k → k < c + 1 → Dec (k < c) → depthAt s last < depthAt s k
      below k l q (yes z) = p.below k l z
      below k l q (no z) = let e : k ≡ c = omega arith in rw e (omega (arith, p.level))

  -- where the last sibling ends
  pub last_end : c < length s → depthAt s c ≤ depthAt s a → SubtreeEnd s last c
  last_end h d = record { after = p.after; within = p.within; deeper = p.below; stop = λ _. omega (arith, p.level) }

  -- a sibling that is no heavier than the last one
  pub sibling_on : (r : Bool) → c < length s → depthAt s c ≡ depthAt s a → LighterThanAt s last c c r → r ≡ false → Running s a c (c + 1)
  unfolding LighterThanAt
  sibling_on r h d n no_heavier = record {
    low = omega (arith, p.low, p.after);
    after = omega arith;
    within = omega arith;
    level = d;
    deep = λ k l q. deep k l q (dec_lt k c);
    below = λ k l q. absurd (omega arith);
    ordered = λ k e f l q dk y de z. ordered k e f l q dk y de z (dec_lt last e) (dec_lt e c) (dec_lt k last) (dec_lt last k);
  }
    where
      deep : (k : ℕ) → a ≤ k → k < c + 1 → Dec (k < c) → depthAt s a ≤ depthAt s k
      deep k l q (yes z) = p.deep k l z
      deep k l q (no z) = let e : k ≡ c = omega arith in rw e (omega arith)

      ordered : (k e f : ℕ) → a ≤ k → e ≤ c → depthAt s k ≡ depthAt s a → SubtreeEnd s k e → depthAt s e ≡ depthAt s k → SubtreeEnd s e f → Dec (last < e) → Dec (e < c) → Dec (k < last) → Dec (last < k) → ¬ Lighter (slice k e s) (slice e f s)
      ordered k e f l q dk y de z (no m) _ _ _ = p.ordered k e f l (omega arith) dk y de z
      ordered k e f l q dk y de z (yes m) (yes o) _ _ = λ _. omega (arith, p.below e m o, p.level)
      ordered k e f l q dk y de z (yes m) (no o) (yes w) _ = λ _. omega (arith, y.deeper last w m, p.level)
      ordered k e f l q dk y de z (yes m) (no o) (no w) (yes v) = λ _. omega (arith, p.below k v (omega (arith, y.after)), p.level)
      ordered k e f l q dk y de z (yes m) (no o) (no w) (no v) =
          let ek : k ≡ last = omega arith in
          let ee : e ≡ c = omega arith in
          rw (ek, ee) (said_no (lighter? (slice last c s) (slice c f s)) (sym no_heavier ∙ n f (rw ee at z)))

  pub ended : (c < length s → depthAt s c ≤ depthAt s a) → SiblingRun s a c
  ended stop = record {
    siblings = record { some = omega (arith, p.low, p.after); within = p.within; deep = p.deep; stop = stop };
    ordered = λ k e f l q dk y de z. ordered k e f l q dk y de z (dec_lt last e);
  }
    where
      ordered : (k e f : ℕ) → a ≤ k → e < c → depthAt s k ≡ depthAt s a → SubtreeEnd s k e → depthAt s e ≡ depthAt s k → SubtreeEnd s e f → Dec (last < e) → ¬ Lighter (slice k e s) (slice e f s)
      ordered k e f l q dk y de z (yes m) = λ _. omega (arith, p.below e m q, p.level)
      ordered k e f l q dk y de z (no m) = p.ordered k e f l (omega arith) dk y de z
