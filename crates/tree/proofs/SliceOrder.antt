-- LAWS for `subtree::lighter`: the order of slices is that of sequences.
use Rattle.std.proofs.Common.{◌≡◌, ℕ, zero, suc, ◌-◌, Bool, true, false, List, [], ◌∷◌, take, drop, sym, arith}
use Rattle.std.proofs.Math.Seq.{slice, take-nil}
use Rattle.std.proofs.lemmas.Bool.Decides.{nat_tests}
use Rattle.std.specs.Ordering.{nat_cmp, MatchOrdering}
use Rattle.std.specs.declared.cmp.Ordering.{Ordering}
use Rattle.std.specs.declared.cmp.Ordering.TheVariants.{Less, Equal, Greater}
use Rattle.terms.specs.Order.{shorter}
use Rattle.terms.specs.Tells.{decided}
use Rattle.terms.proofs.DecidedLaws.{says_yes, says_no}
use Rattle.terms.proofs.OrderLaws.{lighter?, lighter_irrefl}
use Rattle.tree.proofs.LighterSteps.{nothing_lightest, less_yes, greater_no, equal_on}

-- what the comparison of two sequences says
abbrev pub says : List ℕ → List ℕ → Bool
says u v = decided (lighter? u v)

pub slice_is : (s : List ℕ) (i e : ℕ) → slice i e s ≡ take (e - i) (drop i s)
slice_is s zero e = let z : e - 0 ≡ e = omega arith in rw z
slice_is s (suc i) zero = let z : zero - suc i ≡ zero = omega arith in rw z
slice_is [] (suc i) (suc e) = rw take-nil
slice_is (x ∷ s) (suc i) (suc e) = let z : suc e - suc i ≡ e - i = omega arith in rw z (slice_is s i e)

pub both : says [] [] ≡ false
both = sym (says_no (lighter? [] []) (lighter_irrefl []))

pub first : (y : ℕ) (v : List ℕ) → says [] (y ∷ v) ≡ true
first y v = sym (says_yes (lighter? [] (y ∷ v)) shorter)

pub second : (x : ℕ) (u : List ℕ) → says (x ∷ u) [] ≡ false
second x u = sym (says_no (lighter? (x ∷ u) []) (nothing_lightest (x ∷ u)))

pub more : (x y : ℕ) (u v : List ℕ) (o : Ordering) → o ≡ nat_cmp x y → MatchOrdering o (says (x ∷ u) (y ∷ v) ≡ true) (says (x ∷ u) (y ∷ v) ≡ says u v) (says (x ∷ u) (y ∷ v) ≡ false)
more x y u v Less e = sym (less_yes x y u v (grind (arith, nat_tests)))
more x y u v Equal e = sym (equal_on x y u v (grind (arith, nat_tests)))
more x y u v Greater e = sym (greater_no x y u v (grind (arith, nat_tests)))
