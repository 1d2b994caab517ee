-- LAWS. The rules of all that is asked, by its parts: the fleet, a lent register or none, the request.
use mathlib.Core.Path.{◌≡◌, refl, ap, ◌∙◌}
use mathlib.Core.List.{List, ◌∷◌, ◌++◌}
use Prim.Native.Nat.{ℕ}
use Rattle.terms.specs.Fleet.{IsFleet}
use Rattle.terms.specs.Refusal.{Rule, number_unless, refusal, AllKept, also, Numbered, no_rule, and_rule}
use Rattle.terms.proofs.RefusalLaws.{kept_on, broken_here}
use Rattle.terms.proofs.RefusalParts.{numbered_both}
use Rattle.fleet.specs.Rules.{fleet_rule}
use Rattle.register.specs.Register.{register_rule}
use Rattle.listing.specs.Listing.{LentRegister, no_register, a_register, Asked, bare}
use Rattle.listing.specs.Calls.{threshold_rule, bound_rule, request_rules, lent_rules, asked_rules, OfThisFleet, RegisterRight}

lent_numbered : (lent : LentRegister) (fleet : List ℕ) → Numbered (lent_rules lent fleet)
lent_numbered no_register fleet = no_rule
lent_numbered (a_register nodes holders) fleet = and_rule 9 refl no_rule

pub asked_numbered : (q : Asked) → Numbered (asked_rules q)
asked_numbered q = and_rule 9 refl (numbered_both (lent_numbered q.register q.fleet) (and_rule 10 refl (and_rule 11 refl (and_rule 18 refl no_rule))))

-- what is kept, part by part
pub record KeptParts (q : Asked) : Type 0 where
  pub is_fleet : IsFleet q.fleet
  pub lent_right : RegisterRight q
  pub threshold_kept : (threshold_rule q.request.threshold).Kept
  pub bound_kept : (bound_rule q.request.bound).Kept

pub kept_parts : (q : Asked) → AllKept (asked_rules q) → KeptParts q
kept_parts q k = go q.register k
  where
    go : (lent : LentRegister) → AllKept (asked_rules (record { fleet = q.fleet; request = q.request; register = lent })) → KeptParts (record { fleet = q.fleet; request = q.request; register = lent })
    go no_register (also f (also t (also b _))) = record { is_fleet = f; lent_right = tt; threshold_kept = t; bound_kept = b }
    go (a_register nodes holders) (also f (also l (also t (also b _)))) = record { is_fleet = f; lent_right = l; threshold_kept = t; bound_kept = b }

-- a rule that is kept behind another can be left out
kept_second : (rule kept : Rule) (rules : List Rule) → kept.Kept → refusal (rule ∷ kept ∷ rules) ≡ refusal (rule ∷ rules)
unfolding refusal
kept_second rule kept rules h = ap (number_unless rule.decide rule.number) (kept_on kept rules h)

-- a register that is this fleet's refuses nothing
pub right_skipped : (q : Asked) (later : List Rule) → RegisterRight q → refusal (asked_rules q ++ later) ≡ refusal (asked_rules (bare q) ++ later)
right_skipped q later h = go q.register h
  where
    go : (lent : LentRegister) → OfThisFleet lent q.fleet → refusal (fleet_rule q.fleet ∷ (lent_rules lent q.fleet ++ request_rules q.request) ++ later) ≡ refusal (asked_rules (bare q) ++ later)
    go no_register l = refl
    go (a_register nodes holders) l = kept_second (fleet_rule q.fleet) (register_rule q.fleet nodes holders) (request_rules q.request ++ later) l

-- no fleet, or a register that is not the fleet's: both have one number
pub wrong_refused : (q : Asked) (later : List Rule) → ¬ (IsFleet q.fleet × RegisterRight q) → refusal (asked_rules q ++ later) ≡ 10
wrong_refused q later n = go q.register n (fleet_rule q.fleet).decide
  where
    go : (lent : LentRegister) → ¬ (IsFleet q.fleet × OfThisFleet lent q.fleet) → Dec (IsFleet q.fleet)
        → refusal (fleet_rule q.fleet ∷ (lent_rules lent q.fleet ++ request_rules q.request) ++ later) ≡ 10
    go lent w (no k) = broken_here (fleet_rule q.fleet) ((lent_rules lent q.fleet ++ request_rules q.request) ++ later) k
    go no_register w (yes k) = absurd (w (k, tt))
    go (a_register nodes holders) w (yes k) =
        let rest = request_rules q.request ++ later in
        kept_on (fleet_rule q.fleet) (register_rule q.fleet nodes holders ∷ rest) k ∙ broken_here (register_rule q.fleet nodes holders) rest (λ l. w (k, l))
