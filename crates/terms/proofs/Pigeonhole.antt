-- LAWS. The pigeonhole principle.
use mathlib.Core.Path.{◌≡◌, sym, ◌∙◌}
use Prim.Native.Nat.{ℕ, zero, suc, ◌≤◌, ◌<◌}
use native.Mathlib.Omega.{arith}
use native.Mathlib.Decide.{ℕ_discrete}
use Rattle.terms.proofs.Decide.{choose}

-- no injection of 0..m into 0..m-1
pub pigeonhole : (m : ℕ) (f : ℕ → ℕ) → ((i : ℕ) → i ≤ m → f i < m) → ((i j : ℕ) → i ≤ m → j ≤ m → f i ≡ f j → i ≡ j) → ⊥
pigeonhole zero f below inj = omega (arith, below 0 (omega arith))
pigeonhole (suc m) f below inj = pigeonhole m g gbelow ginj
  where
    g : ℕ → ℕ
    g i = choose (ℕ_discrete (f i) m) (f (suc m)) (f i)

    gbelow : (i : ℕ) → i ≤ m → g i < m
    gbelow i h = go (ℕ_discrete (f i) m)
      where
        go : (d : Dec (f i ≡ m)) → choose d (f (suc m)) (f i) < m
        go (yes e) = last (ℕ_discrete (f (suc m)) m)
          where
            last : Dec (f (suc m) ≡ m) → f (suc m) < m
            last (yes e') = absurd (omega (arith, inj i (suc m) (omega arith) (omega arith) (e ∙ sym e')))
            last (no e') = omega (arith, below (suc m) (omega arith))
        go (no e) = omega (arith, below i (omega arith))

    ginj : (i j : ℕ) → i ≤ m → j ≤ m → g i ≡ g j → i ≡ j
    ginj i j hi hj = go (ℕ_discrete (f i) m) (ℕ_discrete (f j) m)
      where
        go : (d : Dec (f i ≡ m)) (d' : Dec (f j ≡ m)) → choose d (f (suc m)) (f i) ≡ choose d' (f (suc m)) (f j) → i ≡ j
        go (yes e) (yes e') q = inj i j (omega arith) (omega arith) (e ∙ sym e')
        go (yes e) (no e') q = absurd (omega (arith, inj (suc m) j (omega arith) (omega arith) q))
        go (no e) (yes e') q = absurd (omega (arith, inj i (suc m) (omega arith) (omega arith) q))
        go (no e) (no e') q = inj i j (omega arith) (omega arith) q
