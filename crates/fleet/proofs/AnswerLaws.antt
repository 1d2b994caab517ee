-- LAWS. The answer and the output of a call by its refusal number: `Done` exactly if it is 0, `Refused` with a number exactly if it is that number.
use mathlib.Core.Path.{◌≡◌, refl, ap}
use mathlib.Core.Logic.{◌↔◌}
use mathlib.Core.List.{List, ◌++◌}
use Prim.Native.Nat.{ℕ, zero, suc, ◌≤◌}
use native.Mathlib.Omega.{arith}
use lib.ListN.{length, drop}
use Rattle.terms.specs.Refusal.{output_after}
use Rattle.fleet.specs.Answering.{answer}
use Rattle.fleet.specs.declared.Answer.TheVariants.{Done, Refused}

pub refused_with : (n k value : ℕ) (result output : List ℕ) → n ≡ suc k → (Refused (suc k) ≡ answer n value) × (output ≡ output_after n result output)
unfolding answer output_after
refused_with n k value result output e = rw e (refl, refl)

pub done_with : (n value : ℕ) (result output exit : List ℕ) → n ≡ 0 → exit ≡ result ++ drop (length result) output → (Done value ≡ answer n value) × (exit ≡ output_after n result output)
unfolding answer output_after
done_with n value result output exit e h = rw e (refl, h)

pub done_exactly : (n v : ℕ) → (answer n v ≡ Done v) ↔ (n ≡ 0)
unfolding answer
done_exactly zero v = ((λ e. refl), (λ e. refl))
done_exactly (suc n) v = ((λ e. let z : ◌≡◌ {A = ℕ} 0 1 = cc in absurd (omega arith)), (λ e. absurd (omega arith)))

pub done_number : (n v m : ℕ) → (answer n v ≡ Done m) ↔ ((n ≡ 0) × (v ≡ m))
unfolding answer
done_number zero v m = ((λ e. (refl, cc)), (λ e. ap Done e.1))
done_number (suc n) v m = ((λ e. let z : ◌≡◌ {A = ℕ} 0 1 = cc in absurd (omega arith)), (λ e. absurd (omega (arith, e.0))))

pub refused_number : (n v m : ℕ) → 1 ≤ m → (answer n v ≡ Refused m) ↔ (n ≡ m)
unfolding answer
refused_number zero v m h = ((λ e. let z : ◌≡◌ {A = ℕ} 0 1 = cc in absurd (omega arith)), (λ e. absurd (omega arith)))
refused_number (suc n) v m h = ((λ e. cc), (λ e. ap Refused e))
