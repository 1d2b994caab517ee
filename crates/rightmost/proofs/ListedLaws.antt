-- LAWS. A list of numbers, rising, made one by one: for the children of a place, and for the nodes with a label.
use mathlib.Core.Path.{◌≡◌, sym, ap, ◌∙◌}
use mathlib.Core.List.{List, [], ◌∷◌, ◌++◌}
use Prim.Native.Nat.{ℕ, suc, ◌+◌, ◌%◌, ◌≤◌, ◌<◌}
use native.Mathlib.Omega.{arith}
use native.Mathlib.Decide.{dec_lt, ℕ_discrete}
use lib.ListN.{length, get_or, length-append, get_or-append}
use lib.Seq.{get_or-append_seam}
use Rattle.terms.specs.Tree.{label_at, IsTree}
use Rattle.rightmost.specs.Ends.{IsChild}
use Rattle.rightmost.specs.PlaceList.{ListedTo, Places, Rising}
use Rattle.rightmost.proofs.TestLaws.{single_places}

-- none so far
pub listed_none : {G : ℕ → Type 0} (next : ℕ) → ((w : ℕ) → w < next → ¬ G w) → ListedTo G next []
listed_none next f = record { each = λ i h. absurd (omega arith); none_missing = λ w h g. absurd (f w h g); rising = λ i j a h. absurd (omega arith) }

-- further numbers that are not so
pub listed_further : {G : ℕ → Type 0} {next : ℕ} {list : List ℕ} (next' : ℕ) → next ≤ next' → ((w : ℕ) → next ≤ w → w < next' → ¬ G w) → ListedTo G next list → ListedTo G next' list
listed_further {G} {next} {list} next' h f l = record { each = λ i k. let z = l.each i k in let y = z.0 in (omega arith, z.1); none_missing = λ w k g. at w k g (dec_lt w next); rising = l.rising }
  where
    at : (w : ℕ) → w < next' → G w → Dec (w < next) → (i : ℕ) × (i < length list) × (get_or list i 0 ≡ w)
    at w k g (yes q) = l.none_missing w q g
    at w k g (no q) = absurd (f w (omega arith) k g)

-- the next is so
pub listed_more : {G : ℕ → Type 0} {next : ℕ} {list : List ℕ} → G next → ListedTo G next list → ListedTo G (suc next) (list ++ next ∷ [])
listed_more {G} {next} {list} g l = record { each = λ i h. each i h (dec_lt i (length list)); none_missing = λ w h q. missing w h q (ℕ_discrete w next); rising = λ i j a h. rise i j a h (dec_lt j (length list)) }
  where
    len : length (list ++ next ∷ []) ≡ length list + 1
    len = length-append list (next ∷ [])

    old : (i : ℕ) → i < length list → get_or (list ++ next ∷ []) i 0 ≡ get_or list i 0
    old i h = get_or-append list (next ∷ []) 0 i h

    new : get_or (list ++ next ∷ []) (length list) 0 ≡ next
    new = get_or-append_seam list next [] 0

    each : (i : ℕ) → i < length (list ++ next ∷ []) → Dec (i < length list) → (get_or (list ++ next ∷ []) i 0 < suc next) × G (get_or (list ++ next ∷ []) i 0)
    each i h (yes k) = let z = l.each i k in let y = z.0 in (omega (arith, old i k), rw (old i k) z.1)
    each i h (no k) = let e : i ≡ length list = omega (arith, len) in (rw (e, new) (omega arith), rw (e, new) g)

    missing : (w : ℕ) → w < suc next → G w → Dec (w ≡ next) → (i : ℕ) × (i < length (list ++ next ∷ [])) × (get_or (list ++ next ∷ []) i 0 ≡ w)
    missing w h q (yes e) = (length list, omega (arith, len), new ∙ sym e)
    missing w h q (no e) = let z = l.none_missing w (omega arith) q in let y = z.1 in (z.0, omega (arith, len), old z.0 y ∙ z.2)

    rise : (i j : ℕ) → i < j → j < length (list ++ next ∷ []) → Dec (j < length list) → get_or (list ++ next ∷ []) i 0 < get_or (list ++ next ∷ []) j 0
    rise i j a h (yes k) = omega (arith, old i (omega arith), old j k, l.rising i j a k)
    rise i j a h (no k) = let e : j ≡ length list = omega (arith, len) in let c : i < length list = omega (arith, len) in omega (arith, old i c, ap (λ (m : ℕ). get_or (list ++ next ∷ []) m 0) e, new, (l.each i c).0)

-- what the whole list is
pub listed_rising : {q : List ℕ} {d l next : ℕ} {list : List ℕ} → length q ≤ next → ListedTo (IsChild q d l) next list → Rising q d l list
listed_rising h z = record { each = λ i k. (z.each i k).1; none_missing = λ w c. z.none_missing w (omega (arith, c.0.inside)) c; rising = z.rising }

pub listed_single : {q : List ℕ} {x : ℕ} {list : List ℕ} → IsTree (x ∷ []) → ListedTo (λ w. label_at q w ≡ x % 1000) (length q) list → Places (x ∷ []) q list
listed_single t z = single_places t z.each z.none_missing z.rising
