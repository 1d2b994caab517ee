-- LAWS. The entries of a register, by their labels.
use mathlib.Core.Path.{◌≡◌, refl, ap, ap₂, ◌∙◌}
use mathlib.Core.List.{List, [], ◌∷◌}
use Prim.Native.Nat.{ℕ, zero, suc, ◌+◌, ◌≤◌, ◌<◌}
use native.Mathlib.Omega.{arith}
use lib.ListN.{length, get_or, take}
use Rattle.register.specs.Register.{entries}

pub entries_length : (f : ℕ → ℕ) (n label : ℕ) → length (entries f n label) ≡ n
unfolding entries
entries_length f zero label = refl
entries_length f (suc n) label = ap suc (entries_length f n (suc label))

pub entries_at : (f : ℕ → ℕ) (n label i : ℕ) → i < n → get_or (entries f n label) i 0 ≡ f (label + i)
unfolding entries
entries_at f zero label i h = absurd (omega arith)
entries_at f (suc n) label zero h = ap f (omega arith)
entries_at f (suc n) label (suc i) h = entries_at f n (suc label) i (omega arith) ∙ ap f (omega arith)

-- a list that has them has them first
pub entries_are : (f : ℕ → ℕ) (n label : ℕ) (l : List ℕ) → n ≤ length l → ((i : ℕ) → i < n → get_or l i 0 ≡ f (label + i)) → take n l ≡ entries f n label
unfolding entries
entries_are f zero label l h g = refl
entries_are f (suc n) label [] h g = absurd (omega arith)
entries_are f (suc n) label (x ∷ l) h g = ap₂ (λ (y : ℕ) (s : List ℕ). y ∷ s) (g 0 (omega arith) ∙ ap f (omega arith))
    (entries_are f n (suc label) l (omega arith) (λ i b. g (suc i) (omega arith) ∙ ap f (omega arith)))
