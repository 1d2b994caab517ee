-- The rules 3 and 8 of a record are decided. Each decision is known by its type.
use Rattle.std.specs.Prelude.{List, ℕ, suc, length}
use Rattle.std.proofs.Math.Decide.{dec_le, ℕ_discrete}
use Rattle.terms.proofs.Decide.{both?, not?, implies?}
use Rattle.fleet.specs.Node.{last_depth, last_label}
use Rattle.record.specs.Record.{depth_bit, label_bit, FirstHasBoth, NoNeedlessField}

unfoldable pub first_has_both? : (before : List ℕ) (bits : ℕ) → Dec (FirstHasBoth before bits)
unfolding both? implies? ℕ_discrete
first_has_both? before bits = implies? (ℕ_discrete (length before) 0) (both? (ℕ_discrete (depth_bit bits) 1) (ℕ_discrete (label_bit bits) 1))

unfoldable pub no_needless_field? : (before : List ℕ) (bits depth label : ℕ) → Dec (NoNeedlessField before bits depth label)
unfolding both? implies? not? dec_le ℕ_discrete
no_needless_field? before bits depth label = implies? (dec_le 1 (length before))
    (both? (implies? (ℕ_discrete (depth_bit bits) 1) (not? (ℕ_discrete depth (suc (last_depth before))))) (implies? (ℕ_discrete (label_bit bits) 1) (not? (ℕ_discrete label (last_label before)))))
