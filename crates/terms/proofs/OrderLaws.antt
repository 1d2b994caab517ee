-- LAWS. The order of sequences: transitive, irreflexive, total, decided.
use mathlib.Core.Path.{◌≡◌, refl, sym, ◌∙◌}
use mathlib.Core.List.{List, [], ◌∷◌, ◌++◌}
use Prim.Native.Nat.{ℕ, ◌<◌}
use native.Mathlib.Omega.{arith}
use native.Mathlib.Decide.{dec_lt}
use Rattle.terms.specs.Order.{Lighter, shorter, differ, agree}

pub n_tt : {a b c : ℕ} → a < b → b < c → a < c
n_tt p q = omega arith

pub n_te : {a b c : ℕ} → a < b → b ≡ c → a < c
n_te p q = omega arith

pub n_et : {a b c : ℕ} → a ≡ b → b < c → a < c
n_et p q = omega arith

pub lighter_trans : {u v w : List ℕ} → Lighter u v → Lighter v w → Lighter u w
lighter_trans shorter (differ q) = shorter
lighter_trans shorter (agree e q) = shorter
lighter_trans (differ p) (differ q) = differ (n_tt p q)
lighter_trans (differ p) (agree e q) = differ (n_te p e)
lighter_trans (agree e p) (differ q) = differ (n_et e q)
lighter_trans (agree e p) (agree e' q) = agree (e ∙ e') (lighter_trans p q)

pub lighter_irrefl : (u : List ℕ) → ¬ Lighter u u
lighter_irrefl [] x' = elim x' [ ]
lighter_irrefl (x ∷ u) (differ p) = omega arith
lighter_irrefl (x ∷ u) (agree e p) = lighter_irrefl u p

-- one of two sequences is lighter, or they are equal
pub data Compared (u v : List ℕ) : Type 0 where
  is_lighter : Lighter u v → Compared u v
  is_equal : u ≡ v → Compared u v
  is_heavier : Lighter v u → Compared u v

unfoldable pub compare_weight : (u v : List ℕ) → Compared u v
unfolding dec_lt
compare_weight [] [] = is_equal refl
compare_weight [] (y ∷ v) = is_lighter shorter
compare_weight (x ∷ u) [] = is_heavier shorter
compare_weight (x ∷ u) (y ∷ v) = go (dec_lt x y) (dec_lt y x) (compare_weight u v)
  where
    tails : x ≡ y → Compared u v → Compared (x ∷ u) (y ∷ v)
    tails e (is_lighter p) = is_lighter (agree e p)
    tails e (is_equal p) = is_equal (cc)
    tails e (is_heavier p) = is_heavier (agree (sym e) p)

    go : Dec (x < y) → Dec (y < x) → Compared u v → Compared (x ∷ u) (y ∷ v)
    go (yes p) q z = is_lighter (differ p)
    go (no p) (yes q) z = is_heavier (differ q)
    go (no p) (no q) z = tails (omega arith) z

unfoldable pub lighter? : (u v : List ℕ) → Dec (Lighter u v)
unfolding compare_weight
lighter? u v = go (compare_weight u v)
  where
    go : Compared u v → Dec (Lighter u v)
    go (is_lighter p) = yes p
    go (is_equal p) = no (λ h. lighter_irrefl v (rw p at h))
    go (is_heavier p) = no (λ h. lighter_irrefl u (lighter_trans h p))

pub lighter_append : (p : List ℕ) {u v : List ℕ} → Lighter u v → Lighter (p ++ u) (p ++ v)
lighter_append [] h = h
lighter_append (x ∷ p) h = agree refl (lighter_append p h)
