-- LAWS. Two stretches compared from their first pairs on, by positions.
use mathlib.Core.Path.{◌≡◌}
use mathlib.Core.Bool.{Bool, true, false}
use mathlib.Core.List.{List, [], ◌∷◌}
use Prim.Native.Nat.{ℕ, suc, ◌+◌, ◌≤◌, ◌<◌}
use native.Mathlib.Omega.{arith}
use native.Mathlib.Numerals.{add-one}
use native.Mathlib.Decide.{dec_lt}
use lib.Dec.{ltb}
use borrow.Author.Tests.{lt-ltb, le-ltb}
use lib.ListN.{length, get_or}
use lib.Seq.{slice, slice-cons, slice_empty}
use Rattle.terms.specs.Order.{Lighter, shorter, differ, agree}
use Rattle.terms.specs.Tells.{decided}
use Rattle.terms.proofs.DecidedLaws.{says_yes, says_no, says_same}
use Rattle.terms.proofs.OrderLaws.{lighter?, lighter_irrefl, lighter_trans}

-- what the comparison of the stretches from x to e and from y to f says
abbrev pub says : List ℕ → ℕ → ℕ → ℕ → ℕ → Bool
says s x e y f = decided (lighter? (slice x e s) (slice y f s))

pub nothing_lightest : (u : List ℕ) → ¬ Lighter u []
nothing_lightest [] h = lighter_irrefl [] h
nothing_lightest (x ∷ u) h = lighter_irrefl [] (lighter_trans shorter h)

-- two sequences compared by their first pairs
pub less_yes : (x y : ℕ) (u v : List ℕ) → x < y → true ≡ decided (lighter? (x ∷ u) (y ∷ v))
less_yes x y u v h = says_yes (lighter? (x ∷ u) (y ∷ v)) (differ h)

pub greater_no : (x y : ℕ) (u v : List ℕ) → y < x → false ≡ decided (lighter? (x ∷ u) (y ∷ v))
greater_no x y u v h = says_no (lighter? (x ∷ u) (y ∷ v)) (λ l. lighter_irrefl (x ∷ u) (lighter_trans l (differ h)))

pub equal_on : (x y : ℕ) (u v : List ℕ) → x ≡ y → decided (lighter? u v) ≡ decided (lighter? (x ∷ u) (y ∷ v))
equal_on x y u v e = says_same (lighter? u v) (lighter? (x ∷ u) (y ∷ v)) (agree e) tails
  where
    tails : Lighter (x ∷ u) (y ∷ v) → Lighter u v
    tails (differ h) = absurd (omega arith)
    tails (agree q l) = l

module _ (s : List ℕ) (x e y f : ℕ) (he : e ≤ length s) (hf : f ≤ length s) where
  pub second_ends : x < e → y ≡ f → false ≡ says s x e y f
  second_ends hx q = rw (q, slice_empty f s) (says_no (lighter? (slice x e s) []) (nothing_lightest (slice x e s)))

  pub less : x < e → y < f → get_or s x 0 < get_or s y 0 → true ≡ says s x e y f
  less hx hy h = rw (slice-cons x e s 0 hx he, slice-cons y f s 0 hy hf) (less_yes (get_or s x 0) (get_or s y 0) (slice (suc x) e s) (slice (suc y) f s) h)

  pub greater : x < e → y < f → get_or s y 0 < get_or s x 0 → false ≡ says s x e y f
  greater hx hy h = rw (slice-cons x e s 0 hx he, slice-cons y f s 0 hy hf) (greater_no (get_or s x 0) (get_or s y 0) (slice (suc x) e s) (slice (suc y) f s) h)

  pub one_on : x < e → y < f → get_or s x 0 ≡ get_or s y 0 → says s (x + 1) e (y + 1) f ≡ says s x e y f
  one_on hx hy h = rw (add-one x, add-one y, slice-cons x e s 0 hx he, slice-cons y f s 0 hy hf) (equal_on (get_or s x 0) (get_or s y 0) (slice (suc x) e s) (slice (suc y) f s) h)

  pub first_ends : x ≡ e → y ≤ f → ltb y f ≡ says s x e y f
  first_ends q hy = rw (q, slice_empty e s) (go (dec_lt y f))
    where
      go : Dec (y < f) → ltb y f ≡ decided (lighter? [] (slice y f s))
      go (yes h) = rw (lt-ltb y f h, slice-cons y f s 0 h hf) (says_yes (lighter? [] (get_or s y 0 ∷ slice (suc y) f s)) shorter)
      go (no h) = let z : y ≡ f = omega arith in rw (le-ltb y f (omega arith), z, slice_empty f s) (says_no (lighter? [] []) (lighter_irrefl []))
