-- LAWS. The lightest sequence heavier than a given one, in a set closed under beginnings: by going from the whole sequence to ever shorter
-- beginnings, and asking at each for the least number with which it goes on.
use mathlib.Core.Path.{◌≡◌, refl}
use mathlib.Core.List.{List, [], ◌∷◌, ◌++◌, append_assoc}
use mathlib.Core.Option.{none, some}
use Prim.Native.Nat.{ℕ, ◌≤◌, ◌<◌}
use native.Mathlib.Omega.{arith}
use native.Mathlib.Decide.{dec_lt}
use Rattle.terms.specs.Order.{Lighter, shorter, differ, agree}
use Rattle.terms.specs.Lightest.{Lightest, the_lightest, none_at_all}
use Rattle.terms.proofs.OrderLaws.{lighter_trans, lighter_irrefl, lighter_append}

-- u is heavier than q ++ y ∷ w: it begins with q ++ y too, or with q and a greater number, or is heavier than all that begins with q
data Above (q : List ℕ) (y : ℕ) (u : List ℕ) : Type 0 where
  same : (v : List ℕ) → u ≡ q ++ y ∷ v → Above q y u
  more : (z : ℕ) (v : List ℕ) → y < z → u ≡ q ++ z ∷ v → Above q y u
  past : ((r : List ℕ) → Lighter (q ++ r) u) → Above q y u

above : (q : List ℕ) (y : ℕ) (w u : List ℕ) → Lighter (q ++ y ∷ w) u → Above q y u
above [] y w [] x'' = elim x'' [ ]
above (x ∷ q) y w [] x4 = elim x4 [ ]
above [] y w (z ∷ v) (differ p) = more z v p refl
above [] y w (z ∷ v) (agree e p) = same v (rw e)
above (x ∷ q) y w (z ∷ v) (differ p) = past (λ r. differ p)
above (x ∷ q) y w (z ∷ v) (agree e p) = go (above q y w v p)
  where
    go : Above q y v → Above (x ∷ q) y (z ∷ v)
    go (same v' h) = same v' (cc)
    go (more z' v' m h) = more z' v' m (cc)
    go (past h) = past (λ r. agree e (h r))

-- u goes on after q with a number above low, or is heavier than all that begins with q
pub data Beyond (q : List ℕ) (low : ℕ) (u : List ℕ) : Type 0 where
  goes_on : (z : ℕ) (v : List ℕ) → low < z → u ≡ q ++ z ∷ v → Beyond q low u
  beyond_all : ((r : List ℕ) → Lighter (q ++ r) u) → Beyond q low u

data After (s u : List ℕ) : Type 0 where
  goes_on_with : (z : ℕ) (v : List ℕ) → u ≡ s ++ z ∷ v → After s u
  after_all : ((r : List ℕ) → Lighter (s ++ r) u) → After s u

after : (s u : List ℕ) → Lighter s u → After s u
after [] [] x'' = elim x'' [ ]
after (x ∷ s) [] x4 = elim x4 [ ]
after [] (z ∷ v) shorter = goes_on_with z v refl
after (x ∷ s) (z ∷ v) (differ p) = after_all (λ r. differ p)
after (x ∷ s) (z ∷ v) (agree e p) = go (after s v p)
  where
    go : After s v → After (x ∷ s) (z ∷ v)
    go (goes_on_with z' v' h) = goes_on_with z' v' (cc)
    go (after_all h) = after_all (λ r. agree e (h r))

not_lighter : (q : List ℕ) (x z : ℕ) (v : List ℕ) → x ≤ z → ¬ Lighter (q ++ z ∷ v) (q ++ x ∷ [])
not_lighter [] x z v h (agree e p) = elim p [ ]
not_lighter [] x z v h (differ p) = omega arith
not_lighter (y ∷ q) x z v h (differ p) = omega arith
not_lighter (y ∷ q) x z v h (agree e p) = not_lighter q x z v h p

lighter_longer : (s : List ℕ) (z : ℕ) → Lighter s (s ++ z ∷ [])
lighter_longer [] z = shorter
lighter_longer (x ∷ s) z = agree refl (lighter_longer s z)

module _ (S : List ℕ → Type 0) (closed : (q : List ℕ) (z : ℕ) (v : List ℕ) → S (q ++ z ∷ v) → S (q ++ z ∷ [])) where
  -- The search for what of S is heavier than s has come to the beginning q: what is left goes on after q with a number above low, or lies beyond.
  pub record Searching (s q : List ℕ) (low : ℕ) : Type 0 where
    pub heavier : (z : ℕ) → low < z → Lighter s (q ++ z ∷ [])
    pub left : (u : List ℕ) → S u → Lighter s u → Beyond q low u

  -- What is left lies beyond all that begins with q.
  pub record Exhausted (s q : List ℕ) : Type 0 where
    pub beyond : (u : List ℕ) → S u → Lighter s u → (r : List ℕ) → Lighter (q ++ r) u

  pub search_begins : (s : List ℕ) → ((z : ℕ) → S (s ++ z ∷ []) → 0 < z) → Searching s s 0
  search_begins s positive = record { heavier = λ z _. lighter_longer s z; left = λ u p l. go u p (after s u l) }
    where
      go : (u : List ℕ) → S u → After s u → Beyond s 0 u
      go u p (goes_on_with z v e) = goes_on z v (positive z (closed s z v (rw e at p))) e
      go u p (after_all f) = beyond_all f

  pub search_found : {s q : List ℕ} {low : ℕ} → Searching s q low → (x : ℕ) → low < x → S (q ++ x ∷ []) → ((z : ℕ) → low < z → z < x → ¬ S (q ++ z ∷ []))
      → Lightest (λ u. S u × Lighter s u) (some (q ++ x ∷ []))
  search_found {s} {q} {low} w x h p least = the_lightest (p, w.heavier x h) (λ u k. go u k.0 (w.left u k.0 k.1))
    where
      go : (u : List ℕ) → S u → Beyond q low u → ¬ Lighter u (q ++ x ∷ [])
      go u k (beyond_all f) l = lighter_irrefl u (lighter_trans l (f (x ∷ [])))
      go u k (goes_on z v m e) l = ord (dec_lt z x)
        where
          ord : Dec (z < x) → ⊥
          ord (yes n) = least z m n (closed q z v (rw e at k))
          ord (no n) = not_lighter q x z v (omega arith) (rw e at l)

  pub search_exhausted : {s q : List ℕ} {low : ℕ} → Searching s q low → ((z : ℕ) → low < z → ¬ S (q ++ z ∷ [])) → Exhausted s q
  search_exhausted {s} {q} {low} w none_left = record { beyond = λ u p l. go u p (w.left u p l) }
    where
      go : (u : List ℕ) → S u → Beyond q low u → (r : List ℕ) → Lighter (q ++ r) u
      go u p (beyond_all f) = f
      go u p (goes_on z v m e) = absurd (none_left z m (closed q z v (rw e at p)))

  pub search_shorter : {s q : List ℕ} (y : ℕ) (w : List ℕ) → s ≡ q ++ y ∷ w → Exhausted s (q ++ y ∷ []) → Searching s q y
  search_shorter {s} {q} y w split x = record { heavier = λ z h. rw split (lighter_append q (differ h)); left = λ u p l. go u p l (above q y w u (rw split at l)) }
    where
      go : (u : List ℕ) → S u → Lighter s u → Above q y u → Beyond q y u
      go u p l (same v e) = absurd (lighter_irrefl u (rw (append_assoc q (y ∷ []) v, ← e) at (x.beyond u p l v)))
      go u p l (more z v m e) = goes_on z v m e
      go u p l (past f) = beyond_all f

  pub search_ended : {s : List ℕ} → Exhausted s [] → Lightest (λ u. S u × Lighter s u) none
  search_ended {s} x = none_at_all (λ u k. lighter_irrefl u (x.beyond u k.0 k.1 u))
