-- THE CLAIMS of sets of vehicles, over the definitions that the contracts cite.
use mathlib.Core.Path.{◌≡◌, refl, ◌∙◌, sym}
use mathlib.Core.Logic.{◌⊎◌, inl, inr}
use Prim.Native.Nat.{ℕ, zero, suc, ◌-◌, ◌<◌}
use native.Mathlib.Omega.{arith}
use native.Mathlib.Decide.{ℕ_discrete}
use lib.Bits.{or_lt}
use lib.Count.{ones}
use Rattle.sets.specs.Sets.{bit, Member, with, without}
use Rattle.sets.specs.Claims.{MemberOfNone, MemberOfWith, MemberOfWithout, SetsAgain, KnownByMembers, SizeOfNone, SizeOfWith}
use Rattle.sets.proofs.SetLaws.{bit_at, bit_low, bit_high, bit_small, on_own, on_other, off_own, off_other, on_counted, same_bits}

pub member_of_none : MemberOfNone
member_of_none vehicle m = omega (arith, no_bit (vehicle - 1))
  where
    no_bit : (k : ℕ) → bit_at k 0 ≡ 0
    no_bit zero = bit_low 0
    no_bit (suc k) = bit_high k 0 ∙ no_bit k

pub member_of_with : MemberOfWith
member_of_with v set u nv nu = go (ℕ_discrete u v)
  where
    go : Dec (u ≡ v) → (Member u (with v set) → (u ≡ v) ⊎ Member u set) × ((u ≡ v) ⊎ Member u set → Member u (with v set))
    go (yes e) = ((λ _. inl e), (λ _. rw e (on_own (v - 1) set)))
    go (no n) = ((λ m. inr (sym others ∙ m)), back)
      where
        others : bit_at (u - 1) (with v set) ≡ bit_at (u - 1) set
        others = on_other (u - 1) (v - 1) set (λ e. n (omega (arith, nv.0, nu.0)))

        back : (u ≡ v) ⊎ Member u set → Member u (with v set)
        back (inl e) = absurd (n e)
        back (inr m) = others ∙ m

pub member_of_without : MemberOfWithout
member_of_without v set u nv nu = go (ℕ_discrete u v)
  where
    go : Dec (u ≡ v) → (Member u (without v set) → (¬ (u ≡ v)) × Member u set) × ((¬ (u ≡ v)) × Member u set → Member u (without v set))
    go (yes e) = ((λ m. absurd (gone (rw e at m))), (λ h. absurd (h.0 e)))
      where
        gone : ¬ Member v (without v set)
        gone m = omega (arith, off_own (v - 1) set)
    go (no n) = ((λ m. (n, sym others ∙ m)), (λ h. others ∙ h.1))
      where
        others : bit_at (u - 1) (without v set) ≡ bit_at (u - 1) set
        others = off_other (u - 1) (v - 1) set (λ e. n (omega (arith, nv.0, nu.0)))

pub sets_again : SetsAgain
sets_again v set n h = (or_lt 64 set (bit v) h (bit_small v n), omega arith)

pub known_by_members : KnownByMembers
known_by_members set other h g same = same_bits 64 set other h g (λ k b. go k b (ℕ_discrete (bit_at k set) 1))
  where
    number : (k : ℕ) → suc k - 1 ≡ k
    number k = omega arith

    to : (k : ℕ) → k < 64 → bit_at k set ≡ 1 → bit_at k other ≡ 1
    to k b m = rw (number k) at ((same (suc k) (omega arith, omega arith)).0 (rw (number k) m))

    from : (k : ℕ) → k < 64 → bit_at k other ≡ 1 → bit_at k set ≡ 1
    from k b m = rw (number k) at ((same (suc k) (omega arith, omega arith)).1 (rw (number k) m))

    go : (k : ℕ) → k < 64 → Dec (bit_at k set ≡ 1) → bit_at k set ≡ bit_at k other
    go k b (yes e) = e ∙ sym (to k b e)
    go k b (no n) = let m : ¬ (bit_at k other ≡ 1) = λ e. n (from k b e) in omega arith

pub size_of_none : SizeOfNone
unfolding ones
size_of_none = refl

pub size_of_with : SizeOfWith
size_of_with v set n m = on_counted (v - 1) set (omega (arith, m))
