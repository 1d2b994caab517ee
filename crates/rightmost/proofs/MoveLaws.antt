-- LAWS. One matching for all places: with all children seated, a place serves if it is free, or if its holder can be moved.
use mathlib.Core.Path.{◌≡◌, sym}
use mathlib.Core.Bool.{Bool, false}
use mathlib.Core.List.{List}
use Prim.Native.Nat.{ℕ, suc, ◌<◌}
use lib.ListN.{length, get_or}
use Rattle.terms.specs.Assignment.{Covering, Exhausted}
use Rattle.terms.proofs.AugmentingLaws.{no_covering_around, both_ways}
use Rattle.rightmost.specs.Ends.{AllSeated}

-- E x r: x may have place r; L x: x is to have a place; m: above all places
module _ (E : ℕ → ℕ → Type 0) (L : ℕ → Type 0) where
  -- the seats as they are, where nobody has w
  pub seats_as_they_are : (m w : ℕ) (places : List ℕ) → AllSeated E L places → ((x r : ℕ) → E x r → r < m) → ((x : ℕ) → L x → ¬ (get_or places x 0 ≡ w)) → Covering (λ x r. E x r × ¬ (r ≡ w)) L m
  seats_as_they_are m w places s top free = record {
    to = λ x. get_or places x 0;
    inside = λ x l. top x (get_or places x 0) (edge x l);
    edge = λ x l. (edge x l, free x l);
    inj = λ x y l k e. s.matching.apart x y (s.all x l) e;
  }
    where
      edge : (x : ℕ) → L x → E x (get_or places x 0)
      edge x l = (s.matching.allowed x (s.all x l)).1

  -- it found none: there are no seats beside w
  pub seats_stuck : (m u n : ℕ) (visited visited' : List Bool) (places : List ℕ) → length places ≡ suc n → u < suc n → AllSeated E L places → L u → ((x r : ℕ) → E x r → (r < m) × ¬ (r ≡ 0)) → ((x : ℕ) → get_or visited x false ≡ false)
      → Exhausted E L u m visited visited' places → ¬ Covering (λ x r. E x r × ¬ (r ≡ get_or places u 0)) L m
  seats_stuck m u n visited visited' places len b s l top fresh f =
      no_covering_around E L m u n visited visited' places (λ x r. E x r × ¬ (r ≡ get_or places u 0)) L len b l (λ z. both_ways z (fresh u)) s.matching
      (λ y r e. let z = top y r e.0 in (e.0, z.0, z.1, (λ q. e.1 (sym q)), λ x v. absurd (both_ways v (fresh x))))
      (λ y k _. k) f
