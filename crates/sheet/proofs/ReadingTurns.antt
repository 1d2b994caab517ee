-- LAWS. The turns of a reading: more than the bytes are enough, so the end at 0 turns is never reached, and a refusal has a number from 1 to 9.
use mathlib.Core.Path.{◌≡◌, refl, sym, ap}
use mathlib.Core.List.{List, [], ◌∷◌, ◌++◌}
use Prim.Native.Nat.{ℕ, zero, suc, ◌≤◌, ◌<◌}
use native.Mathlib.Omega.{arith}
use lib.ListN.{length, drop, length-drop, length-append}
use Rattle.record.proofs.RecordLaws.{record_refusal, refusal_to_9, Right, zero_right}
use Rattle.record.specs.NextRecord.{step_of, after_last, next_record}
use Rattle.sheet.specs.Reading.{pairs_said, Reading, accepted, refused, go_on, read_on, reading}
use Rattle.record.specs.Record.{field_bytes, said_depth, said_label}
use Rattle.terms.specs.Tree.{pair}
use Rattle.sheet.specs.Claims.{NumberInRange}

unfoldable is_refused : Reading → ℕ
is_refused (accepted pairs) = 0
is_refused (refused number) = 1

pub not_both : {number : ℕ} {pairs : List ℕ} → refused number ≡ accepted pairs → ⊥
unfolding is_refused
not_both e = absurd (omega (arith, ap is_refused e))

pub accepted_same : {u v : List ℕ} → accepted u ≡ accepted v → u ≡ v
unfolding pairs_said
accepted_same e = ap pairs_said e

unfoldable number_of : Reading → ℕ
number_of (accepted pairs) = 0
number_of (refused number) = number

pub refused_same : {m n : ℕ} → refused m ≡ refused n → m ≡ n
unfolding number_of
refused_same e = ap number_of e

-- one turn of an accepting reading: the record kept the rules, and the reading goes on
pub one_turn : (n : ℕ) (before : List ℕ) (bits : ℕ) (bytes pairs : List ℕ) → read_on (suc n) before (bits ∷ bytes) ≡ accepted pairs
    → Right before bits bytes × (read_on n (before ++ pair (said_depth before bits bytes) (said_label before bits bytes) ∷ []) (drop (field_bytes bits) bytes) ≡ accepted pairs)
unfolding read_on go_on next_record step_of
one_turn n before bits bytes pairs e = go (record_refusal before bits bytes) refl e
  where
    go : (k : ℕ) → record_refusal before bits bytes ≡ k → go_on (step_of k (said_depth before bits bytes) (said_label before bits bytes) (drop (field_bytes bits) bytes)) before (read_on n) ≡ accepted pairs
        → Right before bits bytes × (read_on n (before ++ pair (said_depth before bits bytes) (said_label before bits bytes) ∷ []) (drop (field_bytes bits) bytes) ≡ accepted pairs)
    go zero z q = (zero_right before bits bytes z, q)
    go (suc k) z q = absurd (not_both q)

pub accepted_at_end : (n : ℕ) (before pairs : List ℕ) → read_on (suc n) before [] ≡ accepted pairs → (1 ≤ length before) × (before ≡ pairs)
unfolding read_on go_on next_record after_last
accepted_at_end n [] pairs e = absurd (not_both e)
accepted_at_end n (x ∷ before) pairs e = (omega arith, accepted_same e)

pub turns_enough : (n m : ℕ) (before bytes : List ℕ) → length bytes < n → length bytes < m → read_on n before bytes ≡ read_on m before bytes
unfolding read_on go_on next_record step_of after_last
turns_enough zero m before bytes a b = absurd (omega arith)
turns_enough (suc n) zero before bytes a b = absurd (omega arith)
turns_enough (suc n) (suc m) before [] a b = go before
  where
    go : (u : List ℕ) → go_on (after_last u) u (read_on n) ≡ go_on (after_last u) u (read_on m)
    go [] = refl
    go (x ∷ u) = refl
turns_enough (suc n) (suc m) before (bits ∷ bytes) a b = go (record_refusal before bits bytes) (turns_enough n m (before ++ pair (said_depth before bits bytes) (said_label before bits bytes) ∷ []) (drop (field_bytes bits) bytes)
    (omega (arith, length-drop (field_bytes bits) bytes)) (omega (arith, length-drop (field_bytes bits) bytes)))
  where
    go : (k : ℕ) → read_on n (before ++ pair (said_depth before bits bytes) (said_label before bits bytes) ∷ []) (drop (field_bytes bits) bytes) ≡ read_on m (before ++ pair (said_depth before bits bytes) (said_label before bits bytes) ∷ []) (drop (field_bytes bits) bytes)
        → go_on (step_of k (said_depth before bits bytes) (said_label before bits bytes) (drop (field_bytes bits) bytes)) before (read_on n) ≡ go_on (step_of k (said_depth before bits bytes) (said_label before bits bytes) (drop (field_bytes bits) bytes)) before (read_on m)
    go zero e = e
    go (suc k) e = refl

-- what is read keeps what was read before
pub reads_on : (n : ℕ) (before bytes pairs : List ℕ) → read_on n before bytes ≡ accepted pairs → length before ≤ length pairs
unfolding read_on go_on next_record after_last
reads_on zero before bytes pairs e = absurd (not_both e)
reads_on (suc n) [] [] pairs e = absurd (not_both e)
reads_on (suc n) (x ∷ before) [] pairs e = let z : x ∷ before ≡ pairs = accepted_same e in omega (arith, ap length z)
reads_on (suc n) before (bits ∷ bytes) pairs e =
    let t = one_turn n before bits bytes pairs e in
    omega (arith, reads_on n (before ++ pair (said_depth before bits bytes) (said_label before bits bytes) ∷ []) (drop (field_bytes bits) bytes) pairs t.1, length-append before (pair (said_depth before bits bytes) (said_label before bits bytes) ∷ []))

accepted_not : {number : ℕ} {pairs : List ℕ} → accepted pairs ≡ refused number → ⊥
accepted_not e = not_both (sym e)

pub refused_in_range : (n : ℕ) (before bytes : List ℕ) (number : ℕ) → length bytes < n → read_on n before bytes ≡ refused number → (1 ≤ number) × (number ≤ 9)
unfolding read_on go_on next_record step_of after_last number_of
refused_in_range zero before bytes number h e = absurd (omega arith)
refused_in_range (suc n) [] [] number h e = let z : 1 ≡ number = ap number_of e in (omega arith, omega arith)
refused_in_range (suc n) (x ∷ before) [] number h e = absurd (accepted_not e)
refused_in_range (suc n) before (bits ∷ bytes) number h e = go (record_refusal before bits bytes) refl e (λ q. refused_in_range n (before ++ pair (said_depth before bits bytes) (said_label before bits bytes) ∷ []) (drop (field_bytes bits) bytes) number (omega (arith, length-drop (field_bytes bits) bytes)) q)
  where
    go : (k : ℕ) → record_refusal before bits bytes ≡ k → go_on (step_of k (said_depth before bits bytes) (said_label before bits bytes) (drop (field_bytes bits) bytes)) before (read_on n) ≡ refused number
        → (read_on n (before ++ pair (said_depth before bits bytes) (said_label before bits bytes) ∷ []) (drop (field_bytes bits) bytes) ≡ refused number → (1 ≤ number) × (number ≤ 9)) → (1 ≤ number) × (number ≤ 9)
    go zero z q f = f q
    go (suc k) z q f = let w : suc k ≡ number = ap number_of q in (omega arith, omega (arith, refusal_to_9 before bits bytes))

pub number_in_range : NumberInRange
unfolding reading
number_in_range sheet number e = refused_in_range (suc (length sheet)) [] sheet number (omega arith) e
