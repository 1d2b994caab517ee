-- LAWS. A node has no refusal exactly if it keeps the rules 5, 6, 7 and 9, and otherwise the number of the first that it breaks.
use mathlib.Core.Path.{◌≡◌, refl, sym}
use mathlib.Core.List.{List, ◌++◌}
use Prim.Native.Nat.{ℕ, zero, suc, ◌<◌}
use native.Mathlib.Omega.{arith}
use Rattle.terms.specs.Refusal.{Rule, refusal, this, later, AllKept, none, also, Numbered, no_rule, and_rule}
use Rattle.terms.proofs.RefusalLaws.{first_broken_refusal, all_kept_refusal, answered_exactly}
use Rattle.terms.proofs.RefusalParts.{refused_first, refused_later}
use Rattle.fleet.specs.Node.{DepthAllowed, LabelAllowed, FamilyAllowed, WithinLimits}
use Rattle.fleet.specs.NodeRules.{fit_rules, node_rules}

pub record NodeRight (before : List ℕ) (depth label : ℕ) : Type 0 where
  pub rule5 : DepthAllowed before depth
  pub rule6 : LabelAllowed label
  pub rule7 : FamilyAllowed before depth label
  pub rule9 : WithinLimits before depth

module _ (before : List ℕ) (d l : ℕ) where
  pub fit_numbered : Numbered (fit_rules before d l)
  unfolding fit_rules
  fit_numbered = and_rule 4 refl (and_rule 5 refl (and_rule 6 refl no_rule))

  pub unfit_5 : ¬ (DepthAllowed before d) → refusal (fit_rules before d l) ≡ 5
  unfolding fit_rules
  unfit_5 n = first_broken_refusal (this n refl)

  pub unfit_6 : DepthAllowed before d → ¬ (LabelAllowed l) → refusal (fit_rules before d l) ≡ 6
  unfolding fit_rules
  unfit_6 h5 n = first_broken_refusal (later h5 (this n refl))

  pub unfit_7 : DepthAllowed before d → LabelAllowed l → ¬ (FamilyAllowed before d l) → refusal (fit_rules before d l) ≡ 7
  unfolding fit_rules
  unfit_7 h5 h6 n = first_broken_refusal (later h5 (later h6 (this n refl)))

  pub fit : DepthAllowed before d → LabelAllowed l → FamilyAllowed before d l → refusal (fit_rules before d l) ≡ 0
  unfolding fit_rules
  fit h5 h6 h7 = all_kept_refusal (also h5 (also h6 (also h7 none)))

  -- a node that does not fit is refused so, whatever rules come later; one that fits is left to them
  pub unfit_first : (n : ℕ) (rules : List Rule) → 0 < n → n ≡ refusal (fit_rules before d l) → n ≡ refusal (fit_rules before d l ++ rules)
  unfit_first zero rules h e = absurd (omega arith)
  unfit_first (suc n) rules h e = sym (refused_first (fit_rules before d l) rules n (sym e))

  pub fit_later : (rules : List Rule) → refusal (fit_rules before d l) ≡ 0 → refusal (fit_rules before d l ++ rules) ≡ refusal rules
  fit_later rules e = refused_later rules fit_numbered e

  pub node_numbered : Numbered (node_rules before d l)
  unfolding node_rules
  node_numbered = and_rule 4 refl (and_rule 5 refl (and_rule 6 refl (and_rule 8 refl no_rule)))

  pub node_zero : NodeRight before d l → refusal (node_rules before d l) ≡ 0
  unfolding node_rules
  node_zero r = all_kept_refusal (also r.rule5 (also r.rule6 (also r.rule7 (also r.rule9 none))))

  pub zero_node : refusal (node_rules before d l) ≡ 0 → NodeRight before d l
  unfolding node_rules
  zero_node e = kept ((answered_exactly node_numbered).0 e)
    where
      kept : AllKept (node_rules before d l) → NodeRight before d l
      kept (also h5 (also h6 (also h7 (also h9 none)))) = record { rule5 = h5; rule6 = h6; rule7 = h7; rule9 = h9 }
