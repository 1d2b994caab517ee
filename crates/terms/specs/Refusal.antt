-- Document 01, "When the desk says no": which number a call gives, and what a call leaves in an output.
use Rattle.std.specs.Prelude.{◌≡◌, List, [], ◌∷◌, ◌++◌, ℕ, zero, suc, length, drop}

-- A row of the table: its number, the rule whose breach is the cause, and that it is decided whether the rule is kept.
pub record Rule : Type 1 where
  pub number : ℕ
  pub Kept : Type 0
  pub decide : Dec Kept

unfoldable pub number_unless : {Kept : Type 0} → Dec Kept → (number later : ℕ) → ℕ
number_unless (yes _) number later = later
number_unless (no _) number later = number

-- "Numbers are checked upwards; a call checks those that concern it": the number of the first rule that is broken, 0 if none is.
unfoldable pub refusal : List Rule → ℕ
unfolding number_unless
refusal [] = 0
refusal (rule ∷ rules) = number_unless rule.decide rule.number (refusal rules)

-- The number n is that of the first rule that is broken. That `refusal` gives n exactly then is `refused_exactly`.
pub data FirstBroken (n : ℕ) : List Rule → Type 1 where
  this : {rule : Rule} {rules : List Rule} → ¬ rule.Kept → rule.number ≡ n → FirstBroken n (rule ∷ rules)
  later : {rule : Rule} {rules : List Rule} → rule.Kept → FirstBroken n rules → FirstBroken n (rule ∷ rules)

-- No rule is broken. That `refusal` gives 0 exactly then is `answered_exactly`.
pub data AllKept : List Rule → Type 1 where
  none : AllKept []
  also : {rule : Rule} {rules : List Rule} → rule.Kept → AllKept rules → AllKept (rule ∷ rules)

-- Every number of the rules is 1 or more, as those of the table are.
pub data Numbered : List Rule → Type 1 where
  no_rule : Numbered []
  and_rule : {rule : Rule} {rules : List Rule} (n : ℕ) → rule.number ≡ suc n → Numbered rules → Numbered (rule ∷ rules)

-- The whole output after a call with this refusal number (0: none) and this result. Refused: "left as it was: every output";
-- answered: "nothing past the length of the result is written".
unfoldable pub output_after : (refusal : ℕ) (result output : List ℕ) → List ℕ
output_after zero result output = result ++ drop (length result) output
output_after (suc _) result output = output
