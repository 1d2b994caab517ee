-- What a test's answer tells: true that it is so, false that it is not.
use Rattle.std.specs.Prelude.{Bool, true, false}

abbrev pub Tells : Bool → Type 0 → Type 0
Tells true A = A
Tells false A = ¬ A

-- The test's answer that a decision gives. `yes_exactly` (proofs/DecidedLaws): it is true exactly if what is decided is so.
unfoldable pub decided : {A : Type 0} → Dec A → Bool
decided (yes _) = true
decided (no _) = false
