-- LAWS for `heavier_end`: more siblings passed, and each way out.
use mathlib.Core.Path.{◌≡◌, ◌∙◌}
use mathlib.Core.Bool.{Bool, true, false, not}
use mathlib.Core.List.{List}
use Prim.Native.Nat.{ℕ, ◌+◌, ◌≤◌, ◌<◌}
use native.Mathlib.Omega.{arith}
use native.Mathlib.Decide.{dec_lt}
use lib.ListN.{length, get_or}
use lib.Seq.{slice}
use Rattle.terms.specs.Tree.{depthAt, SubtreeEnd}
use Rattle.terms.specs.Order.{Lighter}
use Rattle.terms.proofs.DecidedLaws.{said_yes, said_no, denied, not_denied}
use Rattle.terms.proofs.OrderLaws.{lighter?, lighter_irrefl, lighter_trans}
use Rattle.tree.proofs.LighterSteps.{greater}
use Rattle.merging.specs.Merging.{LighterThanAt, Passed, NextNoHeavier}

-- what stands from m to c is no less deep than i, and no sibling of it there is lighter than the subtree from i to e
pub record PassedTo (s : List ℕ) (i e m b c : ℕ) : Type 0 where
  pub on : m ≤ c
  pub within : c ≤ b
  pub deep : (k : ℕ) → m ≤ k → k < c → depthAt s i ≤ depthAt s k
  pub heavier : (k f : ℕ) → m ≤ k → k < c → depthAt s k ≡ depthAt s i → SubtreeEnd s k f → ¬ Lighter (slice k f s) (slice i e s)

module _ (s : List ℕ) (i e m b : ℕ) (r : SubtreeEnd s i e) (low : m ≤ b) (bound : b ≤ length s) where
  pub none_passed : PassedTo s i e m b m
  none_passed = record { on = omega arith; within = low; deep = λ k h l. absurd (omega arith); heavier = λ k f h l. absurd (omega arith) }

  pub inside : (c : ℕ) → c < b → c < length s
  inside c h = omega arith

  pub own : i < length s
  own = omega (arith, r.after, r.within)

  -- one pair more that is passed
  one_passed : (c : ℕ) → PassedTo s i e m b c → c < b → depthAt s i ≤ depthAt s c → ((f : ℕ) → SubtreeEnd s c f → ¬ Lighter (slice c f s) (slice i e s)) → PassedTo s i e m b (c + 1)
  one_passed c p h d g = record { on = omega (arith, p.on); within = omega arith; deep = λ k l n. below k l n (dec_lt k c); heavier = λ k f l n w y. go k f l n w y (dec_lt k c) }
    where
      below : (k : ℕ) → m ≤ k → k < c + 1 → Dec (k < c) → depthAt s i ≤ depthAt s k
      below k l n (yes z) = p.deep k l z
      below k l n (no z) = let o : k ≡ c = omega arith in rw o d

      go : (k f : ℕ) → m ≤ k → k < c + 1 → depthAt s k ≡ depthAt s i → SubtreeEnd s k f → Dec (k < c) → ¬ Lighter (slice k f s) (slice i e s)
      go k f l n w y (yes z) = p.heavier k f l z w y
      go k f l n w y (no z) = let o : k ≡ c = omega arith in rw o (g f (rw o at y))

  -- a pair that is greater: a heavier sibling, or below one
  pub greater_passed : (c : ℕ) → PassedTo s i e m b c → c < b → get_or s i 0 < get_or s c 0 → PassedTo s i e m b (c + 1)
  greater_passed c p h g = one_passed c p h (omega arith) (λ f y. said_no (lighter? (slice c f s) (slice i e s)) (greater s c f i e y.within r.within y.after r.after g))

  -- a sibling of the same label that is heavier
  pub same_passed : (c : ℕ) → PassedTo s i e m b c → c < b → get_or s i 0 ≤ get_or s c 0 → (heavier : Bool) → LighterThanAt s i e c heavier → not heavier ≡ false → PassedTo s i e m b (c + 1)
  unfolding LighterThanAt
  same_passed c p h v heavier told tested = one_passed c p h (omega arith) (λ f y l. lighter_irrefl (slice i e s) (lighter_trans (said_yes (lighter? (slice i e s) (slice c f s)) (not_denied heavier tested ∙ told f y)) l))

  passed : (c : ℕ) → PassedTo s i e m b c → (c < b → get_or s c 0 ≤ get_or s i 0) → Passed s i e m b c
  passed c p l = record { on = p.on; within = p.within; deep = p.deep; stop = λ h. omega (arith, l h); last = λ k h y w. p.heavier k c h y.after w y }

  pub at_last : (c : ℕ) → PassedTo s i e m b c → b ≤ c → Passed s i e m b c × NextNoHeavier s i e b c
  unfolding NextNoHeavier
  at_last c p h = (passed c p (λ z. absurd (omega arith)), λ f n d y l. omega arith)

  pub at_less : (c : ℕ) → PassedTo s i e m b c → get_or s c 0 < get_or s i 0 → Passed s i e m b c × NextNoHeavier s i e b c
  unfolding NextNoHeavier
  at_less c p h = (passed c p (λ _. omega arith), λ f n d y. said_no (lighter? (slice i e s) (slice c f s)) (greater s i e c f r.within y.within r.after y.after h))

  pub at_no_heavier : (c : ℕ) → PassedTo s i e m b c → get_or s c 0 ≤ get_or s i 0 → (heavier : Bool) → LighterThanAt s i e c heavier → not heavier ≡ true → Passed s i e m b c × NextNoHeavier s i e b c
  unfolding NextNoHeavier LighterThanAt
  at_no_heavier c p v heavier told tested = (passed c p (λ _. v), λ f n d y. said_no (lighter? (slice i e s) (slice c f s)) (denied heavier tested ∙ told f y))
