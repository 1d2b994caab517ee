-- Document 01, "The sheet": the rules of a record in their order, and what the record at the front of the bytes says.
use Rattle.std.specs.Prelude.{List, [], ◌∷◌, ◌++◌, ℕ, zero, suc, length, drop}
use Rattle.std.proofs.Math.Decide.{dec_lt, dec_le}
use Rattle.terms.specs.Refusal.{Rule, refusal}
use Rattle.fleet.specs.NodeRules.{fit_rules, limit_rule}
use Rattle.record.specs.Record.{field_bytes, field_or, said_depth, said_label, NoHighBit, FirstHasBoth, FieldsFit, NoNeedlessField}
use Rattle.record.specs.RecordDecided.{first_has_both?, no_needless_field?}

-- The rules about what a record says: those of its node, 5, 6, 7 and 9, and before the last that of its fields, 8.
unfoldable pub said_rules : (before : List ℕ) (bits depth label : ℕ) → List Rule
unfolding fit_rules limit_rule no_needless_field?
said_rules before bits depth label =
    fit_rules before depth label
    ++ record { number = 8; Kept = NoNeedlessField before bits depth label; decide = no_needless_field? before bits depth label }
    ∷ limit_rule before depth
    ∷ []

-- "Within a record the checks go in the order of the numbers 2 to 9."
unfoldable pub record_rules : (before : List ℕ) (bits : ℕ) (bytes : List ℕ) → List Rule
unfolding field_or dec_lt dec_le first_has_both? said_rules
record_rules before bits bytes =
    record { number = 2; Kept = NoHighBit bits; decide = dec_lt bits 4 }
    ∷ record { number = 3; Kept = FirstHasBoth before bits; decide = first_has_both? before bits }
    ∷ record { number = 4; Kept = FieldsFit bits bytes; decide = dec_le (field_bytes bits) (length bytes) }
    ∷ said_rules before bits (said_depth before bits bytes) (said_label before bits bytes)

-- "hands out one record a call (its depth and label, absent fields filled in) and the bytes that remain; after the last it says end,
-- on a sheet of no bytes it gives 1, and at a wrong record it gives the number"
pub data Step : Type 0 where
  node : (depth label : ℕ) (remain : List ℕ) → Step
  end : Step
  wrong : (number : ℕ) → Step

unfoldable pub step_of : (number depth label : ℕ) (remain : List ℕ) → Step
step_of zero depth label remain = node depth label remain
step_of (suc number) depth label remain = wrong (suc number)

unfoldable pub after_last : (before : List ℕ) → Step
after_last [] = wrong 1
after_last (_ ∷ _) = end

-- The record at the front of the bytes, after these nodes.
unfoldable pub next_record : (before bytes : List ℕ) → Step
unfolding field_or refusal record_rules step_of after_last
next_record before [] = after_last before
next_record before (bits ∷ bytes) = step_of (refusal (record_rules before bits bytes)) (said_depth before bits bytes) (said_label before bits bytes) (drop (field_bytes bits) bytes)
