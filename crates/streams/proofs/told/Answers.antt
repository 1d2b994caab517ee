use Rattle.std.proofs.Common.{◌≡◌, ℕ, zero, suc, rules, Result, Ok, Err, None, Some}
use Rattle.std.specs.declared.io.Error.{Error}
use Rattle.streams.specs.Input.{told_by}
use Rattle.streams.proofs.InputLaws.{Told}
use Rattle.streams.proofs.told.Goals as goal

told_end : (answer : Result ℕ Error) {count : ℕ} → answer ≡ Ok count → count ≡ 0 → (let r : Told = Ok None in r) ≡ told_by answer
unfolding told_by
told_end (Ok zero) e z = cc
told_end (Ok (suc n)) e z = absurd cc
told_end (Err x) e z = absurd cc

told_bytes : (answer : Result ℕ Error) {count : ℕ} → answer ≡ Ok count → ¬ (count ≡ 0) → (let r : Told = Ok (Some count) in r) ≡ told_by answer
unfolding told_by
told_bytes (Ok zero) e n = absurd (n cc)
told_bytes (Ok (suc n)) e k = cc
told_bytes (Err x) e n = absurd cc

told_failure : (answer : Result ℕ Error) {x : Error} → answer ≡ Err x → (let r : Told = Err x in r) ≡ told_by answer
unfolding told_by
told_failure (Ok zero) e = absurd cc
told_failure (Ok (suc n)) e = absurd cc
told_failure (Err x) e = cc

pub returns-in-Ok-eq0 : goal.returns-in-Ok-eq0
returns-in-Ok-eq0 c = told_end _ c.in-Ok-eq0.is (search rules)

pub returns-in-Ok : goal.returns-in-Ok
returns-in-Ok c = told_bytes _ c.in-Ok.is (search rules)

pub returns-in-Err : goal.returns-in-Err
returns-in-Err c = told_failure _ c.in-Err.is
