-- LAWS. There is room for all children of the next place: none of them is listed yet.
use mathlib.Core.Path.{◌≡◌, refl, sym}
use mathlib.Core.Logic.{◌≢◌, ◌⊎◌, ⊎_elim}
use mathlib.Core.List.{List}
use Prim.Native.Nat.{ℕ, zero, suc, ◌+◌, ◌-◌, ◌%◌, ◌≤◌, ◌<◌}
use native.Mathlib.Omega.{arith}
use native.Mathlib.Decide.{dec_lt}
use lib.ListN.{length, get_or}
use Rattle.terms.specs.Tree.{depthAt}
use Rattle.terms.specs.Matching.{placeAt}
use Rattle.terms.proofs.Decide.{not?}
use Rattle.terms.proofs.EmbedsLaws.{par_unique}
use Rattle.occurrence.specs.Support.{counted}
use Rattle.occurrence.proofs.SupportLaws.{counted_yes, counted_no}
use Rattle.rightmost.specs.Ends.{LastPlace, last_of, Up, IsChild, child?, children, count_below, NewChild}
use Rattle.rightmost.specs.PlaceList.{Before, Places, steps_to, PlacesFrom}
use Rattle.rightmost.proofs.Counting.{count_into}
use Rattle.rightmost.proofs.BranchLaws.{branch_place}
use Rattle.rightmost.proofs.PlaceOrder.{before_irrefl, before_trans, before_up}

-- a list of different numbers below n that are not so, and those that are
all_count : (n : ℕ) → count_below {C = λ (i : ℕ). i ≡ i} (λ _. yes refl) n ≡ n
unfolding count_below counted
all_count zero = refl
all_count (suc n) = omega (arith, all_count n)

both_count : {C : ℕ → Type 0} (d : (i : ℕ) → Dec (C i)) (n : ℕ) → count_below d n + count_below (λ i. not? (d i)) n ≡ n
unfolding count_below
both_count d zero = refl
both_count {C} d (suc n) = go (d n) (both_count d n)
  where
    go : Dec (C n) → count_below d n + count_below (λ i. not? (d i)) n ≡ n → counted (d n) + count_below d n + (counted (not? (d n)) + count_below (λ i. not? (d i)) n) ≡ suc n
    go (yes c) r = omega (arith, r, counted_yes c (d n), counted_no (λ z. z c) (not? (d n)))
    go (no c) r = omega (arith, r, counted_no c (d n), counted_yes c (not? (d n)))

others_few : {C : ℕ → Type 0} (d : (i : ℕ) → Dec (C i)) (n : ℕ) (list : List ℕ) → ((i : ℕ) → i < length list → (get_or list i 0 < n) × ¬ C (get_or list i 0)) → ((i j : ℕ) → i < length list → j < length list → get_or list i 0 ≡ get_or list j 0 → i ≡ j) → length list + count_below d n ≤ n
others_few d n list f inj =
    omega (arith, both_count d n, all_count (length list), count_into {C = λ (i : ℕ). i ≡ i} (λ _. yes refl) (λ i. not? (d i)) (length list) n (λ i. get_or list i 0) (λ i h _. f i h) (λ i j h k _ _ e. inj i j h k e))

module _ {p : List ℕ} {x b : ℕ} {q old : List ℕ} {n d : ℕ} (e : NewChild p x b) (places : Places p q old) (inside : n < length old) (u : Up q d (steps_to p b) (get_or old n 0))
    (other : (m c : ℕ) → suc m ≡ n → Up q c (steps_to p b) (get_or old m 0) → c ≢ d) where
  step : (i j c c' : ℕ) → i < j → j < length old → Up q c (steps_to p b) (get_or old i 0) → Up q c' (steps_to p b) (get_or old j 0) → (c ≡ c') ⊎ Before q (depthAt p (last_of p) - steps_to p b) c c'
  step i j c c' a h v v' = before_up (places.in_order i j a h) (omega arith) v v'

  -- d is an ancestor of no earlier place
  pub not_earlier : (k : ℕ) → k < n → ¬ Up q d (steps_to p b) (get_or old k 0)
  not_earlier k h v = last n refl
    where
      last : (i : ℕ) → n ≡ i → ⊥
      last zero r = omega arith
      last (suc i) r = go (dec_lt k i)
        where
          z : LastPlace p q (get_or old i 0)
          z = places.each i (omega arith)

          here : placeAt z.tuple (last_of p) ≡ get_or old i 0
          here = omega (arith, z.there)

          c : ℕ
          c = placeAt z.tuple b

          near : Up q c (steps_to p b) (get_or old i 0)
          near = rw here at (branch_place e.is_tree e.on_branch z.placing)

          not_d : c ≢ d
          not_d = other i c (sym r) near

          go : Dec (k < i) → ⊥
          go (yes l) = ⊎_elim (λ y. not_d (sym y)) (λ y. ⊎_elim not_d (λ w. before_irrefl (before_trans y w)) (step i n c d (omega arith) inside near u)) (step k i d c l (omega arith) v near)
          go (no l) = let same : k ≡ i = omega arith in other i d (sym r) (rw same at v) refl

  pub room : {new : List ℕ} → PlacesFrom p x b q old n new → length new + children q d (x % 1000) ≤ length q
  unfolding children
  room {new} f = others_few (child? q d (x % 1000)) (length q) new each inj
    where
      each : (i : ℕ) → i < length new → (get_or new i 0 < length q) × ¬ IsChild q d (x % 1000) (get_or new i 0)
      each i h =
          let z = f.each i h in
          (z.4.0.inside, λ c. let same : z.1 ≡ d = par_unique z.4.0 c.0 in not_earlier z.0 z.2 (rw same at z.3))

      inj : (i j : ℕ) → i < length new → j < length new → get_or new i 0 ≡ get_or new j 0 → i ≡ j
      inj i j h k r = go (dec_lt i j) (dec_lt j i)
        where
          go : Dec (i < j) → Dec (j < i) → i ≡ j
          go (yes l) _ = absurd (before_irrefl (rw r at (f.in_order i j l k)))
          go (no l) (yes m) = absurd (before_irrefl (rw r at (f.in_order j i m h)))
          go (no l) (no m) = omega arith
