-- LAWS. Why a walk from form to heavier form ends: of the sequences of at most n numbers below a limit, ever fewer are heavier.
use mathlib.Core.List.{List, [], ◌∷◌}
use Prim.Native.Nat.{ℕ, zero, suc, ◌+◌, ◌-◌, ◌*◌, ◌≤◌, ◌<◌}
use native.Mathlib.Nat.{suc-mul, mul-le-mul_right}
use native.Mathlib.Omega.{arith}
use lib.ListN.{length}
use Rattle.terms.specs.Order.{Lighter, shorter, differ, agree}
use Rattle.terms.proofs.Decide.{AllBelow, all_below_tail}

-- how many sequences of at most n numbers below the limit there are
unfoldable pub sequences : (limit n : ℕ) → ℕ
sequences limit zero = 1
sequences limit (suc n) = 1 + limit * sequences limit n

-- and how many of them are heavier than one of them
unfoldable pub heavier_sequences : (limit n : ℕ) → List ℕ → ℕ
unfolding sequences
heavier_sequences limit zero s = 0
heavier_sequences limit (suc n) [] = limit * sequences limit n
heavier_sequences limit (suc n) (x ∷ s) = (limit - suc x) * sequences limit n + heavier_sequences limit n s

-- one number more at a place leaves all the sequences behind it
one_less : (a b c : ℕ) → a < b → a * c + c ≤ b * c
one_less a b c h = omega (arith, suc-mul a c, mul-le-mul_right c h)

not_all : (limit n : ℕ) (s : List ℕ) → AllBelow limit s → heavier_sequences limit n s < sequences limit n
unfolding sequences heavier_sequences
not_all limit zero s b = omega arith
not_all limit (suc n) [] b = omega arith
not_all limit (suc n) (x ∷ s) b = omega (arith, not_all limit n s (all_below_tail limit x s b), one_less (limit - suc x) limit (sequences limit n) (omega (arith, b 0 (omega arith))))

pub fewer_heavier : (limit n : ℕ) (s t : List ℕ) → Lighter s t → length t ≤ n → AllBelow limit t → heavier_sequences limit n t < heavier_sequences limit n s
unfolding sequences heavier_sequences
fewer_heavier limit zero [] [] x9 h b = elim x9 [ ]
fewer_heavier limit zero (x ∷ s) [] x11 h b = elim x11 [ ]
fewer_heavier limit (suc n) [] [] x10 h b = elim x10 [ ]
fewer_heavier limit (suc n) (x ∷ s) [] x12 h b = elim x12 [ ]
fewer_heavier limit zero [] (y ∷ t) shorter h b = absurd (omega arith)
fewer_heavier limit zero (x ∷ s) (y ∷ t) (differ p) h b = absurd (omega arith)
fewer_heavier limit zero (x ∷ s) (y ∷ t) (agree e l) h b = absurd (omega arith)
fewer_heavier limit (suc n) [] (y ∷ t) shorter h b = omega (arith, not_all limit n t (all_below_tail limit y t b), one_less (limit - suc y) limit (sequences limit n) (omega (arith, b 0 (omega arith))))
fewer_heavier limit (suc n) (x ∷ s) (y ∷ t) (differ p) h b =
    omega (arith, not_all limit n t (all_below_tail limit y t b), one_less (limit - suc y) (limit - suc x) (sequences limit n) (omega (arith, b 0 (omega arith))))
fewer_heavier limit (suc n) (x ∷ s) (y ∷ t) (agree e l) h b = rw e (omega (arith, fewer_heavier limit n s t l (omega arith) (all_below_tail limit y t b)))
