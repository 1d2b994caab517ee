-- LAWS. The refusal number of rules that are checked part by part.
use mathlib.Core.Path.{◌≡◌, refl}
use mathlib.Core.List.{List, [], ◌∷◌, ◌++◌}
use Prim.Native.Nat.{ℕ, suc}
use native.Mathlib.Omega.{arith}
use Rattle.terms.specs.Refusal.{Rule, number_unless, refusal, AllKept, none, also, Numbered, no_rule, and_rule}

-- what the first part refuses is refused
pub refused_first : (rules later : List Rule) (n : ℕ) → refusal rules ≡ suc n → refusal (rules ++ later) ≡ suc n
unfolding refusal number_unless
refused_first [] later n e = absurd (omega arith)
refused_first (rule ∷ rules) later n e = go rule.decide e (refused_first rules later n)
  where
    go : (d : Dec rule.Kept) → number_unless d rule.number (refusal rules) ≡ suc n → (refusal rules ≡ suc n → refusal (rules ++ later) ≡ suc n)
        → number_unless d rule.number (refusal (rules ++ later)) ≡ suc n
    go (yes _) q f = f q
    go (no _) q f = q

-- what it does not refuse is left to the later rules
pub refused_later : {rules : List Rule} (later : List Rule) → Numbered rules → refusal rules ≡ 0 → refusal (rules ++ later) ≡ refusal later
unfolding refusal number_unless
refused_later later no_rule e = refl
refused_later later (and_rule {rule = rule} {rules = rules} n s m) e = go rule.decide e (refused_later later m)
  where
    go : (d : Dec rule.Kept) → number_unless d rule.number (refusal rules) ≡ 0 → (refusal rules ≡ 0 → refusal (rules ++ later) ≡ refusal later)
        → number_unless d rule.number (refusal (rules ++ later)) ≡ refusal later
    go (yes _) q f = f q
    go (no _) q f = absurd (omega arith)

-- what is kept of two parts is kept of both together
pub kept_both : {rules later : List Rule} → AllKept rules → AllKept later → AllKept (rules ++ later)
kept_both none l = l
kept_both (also k m) l = also k (kept_both m l)

pub kept_first : (rules later : List Rule) → AllKept (rules ++ later) → AllKept rules
kept_first [] later k = none
kept_first (rule ∷ rules) later (also h k) = also h (kept_first rules later k)

pub kept_later : (rules later : List Rule) → AllKept (rules ++ later) → AllKept later
kept_later [] later k = k
kept_later (rule ∷ rules) later (also h k) = kept_later rules later k

pub numbered_both : {rules later : List Rule} → Numbered rules → Numbered later → Numbered (rules ++ later)
numbered_both no_rule m = m
numbered_both (and_rule n h k) m = and_rule n h (numbered_both k m)
