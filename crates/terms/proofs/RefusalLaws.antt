-- LAWS. The number of a refusal is that of the first broken rule, and 0 exactly if no rule is broken.
use mathlib.Core.Path.{◌≡◌, refl, sym, ◌∙◌}
use mathlib.Core.List.{List, ◌∷◌}
use mathlib.Core.Logic.{◌↔◌}
use Prim.Native.Nat.{ℕ, ◌≤◌}
use native.Mathlib.Omega.{arith}
use Rattle.terms.specs.Refusal.{Rule, number_unless, refusal, FirstBroken, this, later, AllKept, none, also, Numbered, no_rule, and_rule}

-- a rule that is kept leaves the number to the later ones
pub kept_on : (rule : Rule) (rules : List Rule) → rule.Kept → refusal (rule ∷ rules) ≡ refusal rules
unfolding refusal number_unless
kept_on rule rules h = go rule.decide
  where
    go : (d : Dec rule.Kept) → number_unless d rule.number (refusal rules) ≡ refusal rules
    go (yes _) = refl
    go (no k) = absurd (k h)

-- a rule that is broken gives its number
pub broken_here : (rule : Rule) (rules : List Rule) → ¬ rule.Kept → refusal (rule ∷ rules) ≡ rule.number
unfolding refusal number_unless
broken_here rule rules h = go rule.decide
  where
    go : (d : Dec rule.Kept) → number_unless d rule.number (refusal rules) ≡ rule.number
    go (yes k) = absurd (h k)
    go (no _) = refl

pub first_broken_refusal : {n : ℕ} {rules : List Rule} → FirstBroken n rules → refusal rules ≡ n
first_broken_refusal (this {rule = rule} {rules = rules} h e) = broken_here rule rules h ∙ e
first_broken_refusal (later {rule = rule} {rules = rules} h b) = kept_on rule rules h ∙ first_broken_refusal b

pub all_kept_refusal : {rules : List Rule} → AllKept rules → refusal rules ≡ 0
unfolding refusal
all_kept_refusal none = refl
all_kept_refusal (also {rule = rule} {rules = rules} h k) = kept_on rule rules h ∙ all_kept_refusal k

-- which of the two it is
pub data Judged (rules : List Rule) : Type 1 where
  kept : AllKept rules → Judged rules
  broken : (n : ℕ) → 1 ≤ n → FirstBroken n rules → Judged rules

pub judged : {rules : List Rule} → Numbered rules → Judged rules
judged no_rule = kept none
judged (and_rule {rule = rule} {rules = rules} n e m) = go rule.decide (judged m)
  where
    go : Dec rule.Kept → Judged rules → Judged (rule ∷ rules)
    go (no h) _ = broken rule.number (omega arith) (this h refl)
    go (yes h) (kept k) = kept (also h k)
    go (yes h) (broken i p b) = broken i p (later h b)

-- THE CLAIMS: a call is refused with the number n exactly if the rule of that number is the first broken, and answered exactly if none is.
pub refused_exactly : {rules : List Rule} (n : ℕ) → Numbered rules → 1 ≤ n → (refusal rules ≡ n) ↔ FirstBroken n rules
refused_exactly {rules} n m p = (to (judged m), first_broken_refusal)
  where
    to : Judged rules → refusal rules ≡ n → FirstBroken n rules
    to (kept k) e = absurd (omega (arith, all_kept_refusal k))
    to (broken i q b) e = let z : i ≡ n = sym (first_broken_refusal b) ∙ e in rw z at b

pub answered_exactly : {rules : List Rule} → Numbered rules → (refusal rules ≡ 0) ↔ AllKept rules
answered_exactly {rules} m = (to (judged m), all_kept_refusal)
  where
    to : Judged rules → refusal rules ≡ 0 → AllKept rules
    to (kept k) e = k
    to (broken i q b) e = absurd (omega (arith, first_broken_refusal b))
