-- LAWS. A record has no refusal exactly if it keeps all rules, and otherwise the number of the first that it breaks.
use mathlib.Core.Path.{◌≡◌, refl, sym, ◌∙◌}
use mathlib.Core.List.{List, [], ◌∷◌}
use Prim.Native.Nat.{ℕ, ◌≤◌, ◌<◌}
use native.Mathlib.Omega.{arith}
use Rattle.terms.specs.Refusal.{refusal, FirstBroken, this, later, AllKept, none, also, Numbered, no_rule, and_rule}
use Rattle.terms.proofs.RefusalLaws.{first_broken_refusal, all_kept_refusal, answered_exactly, kept_on, broken_here, Judged, kept, broken, judged}
use Rattle.fleet.specs.NodeRules.{fit_rules, limit_rule}
use Rattle.fleet.proofs.NodeLaws.{NodeRight, unfit_first, fit_later}
use Rattle.record.specs.Record.{NoHighBit, FirstHasBoth, FieldsFit, NoNeedlessField, said_depth, said_label}
use Rattle.record.specs.NextRecord.{said_rules, record_rules}

abbrev pub record_refusal : (before : List ℕ) (bits : ℕ) (bytes : List ℕ) → ℕ
record_refusal before bits bytes = refusal (record_rules before bits bytes)

abbrev pub said_refusal : (before : List ℕ) (bits depth label : ℕ) → ℕ
said_refusal before bits depth label = refusal (said_rules before bits depth label)

pub record Right (before : List ℕ) (bits : ℕ) (bytes : List ℕ) : Type 0 where
  pub rule2 : NoHighBit bits
  pub rule3 : FirstHasBoth before bits
  pub rule4 : FieldsFit bits bytes
  pub node : NodeRight before (said_depth before bits bytes) (said_label before bits bytes)
  pub rule8 : NoNeedlessField before bits (said_depth before bits bytes) (said_label before bits bytes)

-- what a record says: the first rule broken gives the number
module _ (before : List ℕ) (bits d l : ℕ) where
  said_numbered : Numbered (said_rules before bits d l)
  unfolding said_rules
  said_numbered = and_rule 4 refl (and_rule 5 refl (and_rule 6 refl (and_rule 7 refl (and_rule 8 refl no_rule))))

  pub said_unfit : (n : ℕ) → 0 < n → n ≡ refusal (fit_rules before d l) → n ≡ said_refusal before bits d l
  unfolding said_rules
  said_unfit n h e = unfit_first before d l n _ h e

  module _ (fits : 0 ≡ refusal (fit_rules before d l)) where
    pub said_8 : ¬ (NoNeedlessField before bits d l) → 8 ≡ said_refusal before bits d l
    unfolding said_rules
    said_8 n = sym (fit_later before d l _ (sym fits) ∙ broken_here _ _ n)

    pub said_later : (n : ℕ) → NoNeedlessField before bits d l → refusal (limit_rule before d ∷ []) ≡ n → n ≡ said_refusal before bits d l
    unfolding said_rules
    said_later n h e = sym (fit_later before d l _ (sym fits) ∙ kept_on _ _ h ∙ e)

  pub said_zero : NodeRight before d l → NoNeedlessField before bits d l → said_refusal before bits d l ≡ 0
  unfolding said_rules
  said_zero r r8 = all_kept_refusal (also r.rule5 (also r.rule6 (also r.rule7 (also r8 (also r.rule9 none)))))

  kept_said : AllKept (said_rules before bits d l) → NodeRight before d l × NoNeedlessField before bits d l
  unfolding said_rules
  kept_said (also h5 (also h6 (also h7 (also h8 (also h9 none))))) = (record { rule5 = h5; rule6 = h6; rule7 = h7; rule9 = h9 }, h8)

  said_broken_to_9 : (n : ℕ) → FirstBroken n (said_rules before bits d l) → n ≤ 9
  unfolding said_rules
  said_broken_to_9 n (later _ (later _ (later _ (later _ (later _ x30))))) = elim x30 [ ]
  said_broken_to_9 n (this _ e) = omega arith
  said_broken_to_9 n (later _ (this _ e)) = omega arith
  said_broken_to_9 n (later _ (later _ (this _ e))) = omega arith
  said_broken_to_9 n (later _ (later _ (later _ (this _ e)))) = omega arith
  said_broken_to_9 n (later _ (later _ (later _ (later _ (this _ e))))) = omega arith

module _ (before : List ℕ) (bits : ℕ) (bytes : List ℕ) where
  pub record_numbered : Numbered (record_rules before bits bytes)
  unfolding record_rules
  record_numbered = and_rule 1 refl (and_rule 2 refl (and_rule 3 refl (said_numbered before bits (said_depth before bits bytes) (said_label before bits bytes))))

  pub wrong_2 : ¬ (NoHighBit bits) → record_refusal before bits bytes ≡ 2
  unfolding record_rules
  wrong_2 n = first_broken_refusal (this n refl)

  pub wrong_3 : NoHighBit bits → ¬ (FirstHasBoth before bits) → record_refusal before bits bytes ≡ 3
  unfolding record_rules
  wrong_3 h2 n = first_broken_refusal (later h2 (this n refl))

  pub wrong_4 : NoHighBit bits → FirstHasBoth before bits → ¬ (FieldsFit bits bytes) → record_refusal before bits bytes ≡ 4
  unfolding record_rules
  wrong_4 h2 h3 n = first_broken_refusal (later h2 (later h3 (this n refl)))

  pub right_4 : NoHighBit bits → FirstHasBoth before bits → FieldsFit bits bytes
      → record_refusal before bits bytes ≡ said_refusal before bits (said_depth before bits bytes) (said_label before bits bytes)
  unfolding record_rules
  right_4 h2 h3 h4 = kept_on _ _ h2 ∙ kept_on _ _ h3 ∙ kept_on _ _ h4

  pub right_zero : Right before bits bytes → record_refusal before bits bytes ≡ 0
  right_zero r = right_4 r.rule2 r.rule3 r.rule4 ∙ said_zero before bits (said_depth before bits bytes) (said_label before bits bytes) r.node r.rule8

  kept_right : AllKept (record_rules before bits bytes) → Right before bits bytes
  unfolding record_rules
  kept_right (also h2 (also h3 (also h4 k))) =
      let n = kept_said before bits (said_depth before bits bytes) (said_label before bits bytes) k in
      record { rule2 = h2; rule3 = h3; rule4 = h4; node = n.0; rule8 = n.1 }

  pub zero_right : record_refusal before bits bytes ≡ 0 → Right before bits bytes
  zero_right e = kept_right ((answered_exactly record_numbered).0 e)

  broken_to_9 : (n : ℕ) → FirstBroken n (record_rules before bits bytes) → n ≤ 9
  unfolding record_rules
  broken_to_9 n (this _ e) = omega arith
  broken_to_9 n (later _ (this _ e)) = omega arith
  broken_to_9 n (later _ (later _ (this _ e))) = omega arith
  broken_to_9 n (later _ (later _ (later _ b))) = said_broken_to_9 before bits (said_depth before bits bytes) (said_label before bits bytes) n b

  -- a refusal has a number up to 9
  pub refusal_to_9 : record_refusal before bits bytes ≤ 9
  refusal_to_9 = go (judged record_numbered)
    where
      go : Judged (record_rules before bits bytes) → record_refusal before bits bytes ≤ 9
      go (kept k) = omega (arith, all_kept_refusal k)
      go (broken n _ b) = omega (arith, first_broken_refusal b, broken_to_9 n b)
