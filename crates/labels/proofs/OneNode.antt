-- LAWS. The forms of one node are the labels.
use mathlib.Core.Path.{◌≡◌}
use mathlib.Core.List.{List, [], ◌∷◌}
use Prim.Native.Nat.{ℕ, ◌≤◌, ◌<◌}
use native.Mathlib.Omega.{arith}
use native.Mathlib.Decide.{dec_le, dec_lt}
use lib.ListN.{length, get_or}
use Rattle.terms.specs.Tree.{IsTree}
use Rattle.terms.specs.Form.{InForm}
use Rattle.occurrence.specs.Support.{whole_support}
use Rattle.rightmost.specs.Counts.{top_of}
use Rattle.rightmost.proofs.TestLaws.{single_form}
use Rattle.counts.specs.Gathering.{Gathered}

pub label_tree : (x : ℕ) → 1 ≤ x → x < 1000 → IsTree (x ∷ [])
label_tree x k l = record {
  has_root = omega arith;
  pairs = λ j b. let first : j ≡ 0 = omega arith in rw first (record { depth_to_15 = omega arith; label_from_1 = omega arith });
  root_depth = omega arith;
  later_from_1 = λ j b. absurd (omega arith);
  later_to_next = λ j b. absurd (omega arith);
}

-- a table with the count of each label, and 0 where no label is
pub labels_gathered : {fleet counts₀ counts : List ℕ} → length counts ≡ length counts₀ → ((x : ℕ) → IsTree (x ∷ []) → get_or counts x 0 ≡ whole_support fleet (x ∷ []))
    → ((x : ℕ) → x < top_of [] → ¬ ((1 ≤ x) × (x < 1000)) → get_or counts x 0 ≡ 0) → Gathered [] fleet counts₀ counts
labels_gathered {fleet} {counts₀} {counts} long each zeros = record { as_long = long; are = record { forms = λ x g. each x g.is_tree; others = λ x b g. others x b g (dec_le 1 x) (dec_lt x 1000) } }
  where
    others : (x : ℕ) → x < top_of [] → ¬ InForm (x ∷ []) → Dec (1 ≤ x) → Dec (x < 1000) → get_or counts x 0 ≡ 0
    others x b g (yes k) (yes l) = absurd (g (single_form (label_tree x k l)))
    others x b g (no k) _ = zeros x b (λ z. k z.0)
    others x b g (yes k) (no l) = zeros x b (λ z. l z.1)
