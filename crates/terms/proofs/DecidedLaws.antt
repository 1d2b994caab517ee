-- LAWS. What a decision says is so.
use mathlib.Core.Path.{◌≡◌, refl, sym, ◌∙◌}
use mathlib.Core.Bool.{Bool, true, false, not}
use Prim.Native.Nat.{ℕ}
use native.Mathlib.Omega.{arith}
use Rattle.terms.specs.Tells.{decided}
use Rattle.terms.specs.Claims.{YesExactly}
use Rattle.terms.proofs.Decide.{by_computing}

pub says_yes : {A : Type 0} (d : Dec A) → A → true ≡ decided d
unfolding decided
says_yes (yes _) a = refl
says_yes (no n) a = absurd (n a)

pub says_no : {A : Type 0} (d : Dec A) → ¬ A → false ≡ decided d
unfolding decided
says_no (yes a) n = absurd (n a)
says_no (no _) n = refl

pub said_yes : {A : Type 0} (d : Dec A) → true ≡ decided d → A
said_yes d e = by_computing d (sym e)

pub said_no : {A : Type 0} (d : Dec A) → false ≡ decided d → ¬ A
unfolding decided
said_no (yes a) e n = let z : ◌≡◌ {A = ℕ} 0 1 = cc in omega arith
said_no (no m) e n = m n

-- a test whose answer is that of a decision
pub true_holds : {A : Type 0} (d : Dec A) (b : Bool) → b ≡ decided d → b ≡ true → A
true_holds d b e t = said_yes d (sym t ∙ e)

pub false_fails : {A : Type 0} (d : Dec A) (b : Bool) → b ≡ decided d → b ≡ false → ¬ A
false_fails d b e t = said_no d (sym t ∙ e)

-- a decision says yes exactly if it is so
pub yes_exactly : YesExactly
yes_exactly A d = (by_computing d, (λ a. sym (says_yes d a)))

-- two decisions of what is equivalent say the same
pub says_same : {A B : Type 0} (a : Dec A) (b : Dec B) → (A → B) → (B → A) → decided a ≡ decided b
unfolding decided
says_same (yes x) b f g = says_yes b (f x)
says_same (no x) b f g = says_no b (λ y. x (g y))

-- a test `!b` that was taken, and one that was not
pub denied : (b : Bool) → not b ≡ true → false ≡ b
denied true e = e
denied false e = refl

pub not_denied : (b : Bool) → not b ≡ false → true ≡ b
not_denied true e = refl
not_denied false e = e
