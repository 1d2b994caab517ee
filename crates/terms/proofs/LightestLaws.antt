-- LAWS. Of a decided set of sequences of bounded length and numbers there is exactly one lightest, or none at all.
use mathlib.Core.Path.{◌≡◌, refl, ap}
use mathlib.Core.List.{List, [], ◌∷◌}
use mathlib.Core.Option.{Option, none, some}
use Prim.Native.Nat.{ℕ, ◌≤◌}
use native.Mathlib.Omega.{arith}
use lib.ListN.{length}
use Rattle.terms.specs.Order.{Lighter}
use Rattle.terms.specs.Lightest.{Lightest, the_lightest, none_at_all}
use Rattle.terms.proofs.OrderLaws.{lighter_irrefl, lighter_trans, compare_weight, Compared, is_lighter, is_equal, is_heavier}
use Rattle.terms.proofs.Decide.{AllBelow}
use Rattle.terms.proofs.Collect.{Collected, collect, Member, first, later, Ascending, asc_cons, member_at}

pub lightest_exists : (limit n : ℕ) (Among : List ℕ → Type 0) → ((s : List ℕ) → Among s → (length s ≤ n) × AllBelow limit s) → ((s : List ℕ) → Dec (Among s))
    → (found : Option (List ℕ)) × Lightest Among found
lightest_exists limit n Among within decide = go c.all c.ascending c.sound (λ s a. c.complete s (within s a).0 (within s a).1 a)
  where
    c : Collected limit n Among
    c = collect limit n Among decide

    go : (all : List (List ℕ)) → Ascending all → ((s : List ℕ) → Member s all → Among s) → ((s : List ℕ) → Among s → Member s all) → (found : Option (List ℕ)) × Lightest Among found
    go [] _ sound complete = (none, none_at_all (λ s a. omega (arith, (member_at (complete s a)).1)))
    go (s ∷ rest) (asc_cons above _) sound complete = (some s, the_lightest (sound s (first refl)) (λ other a. not_lighter other (complete other a)))
      where
        not_lighter : (other : List ℕ) → Member other (s ∷ rest) → ¬ Lighter other s
        not_lighter other (first e) l = lighter_irrefl other (rw e at l)
        not_lighter other (later m) l = lighter_irrefl s (lighter_trans (above other m) l)

pub lightest_unique : {Among : List ℕ → Type 0} {a b : Option (List ℕ)} → Lightest Among a → Lightest Among b → a ≡ b
lightest_unique (none_at_all f) (none_at_all g) = refl
lightest_unique (none_at_all f) (the_lightest {s = s} h l) = absurd (f s h)
lightest_unique (the_lightest {s = s} h l) (none_at_all g) = absurd (g s h)
lightest_unique (the_lightest {s = s} h l) (the_lightest {s = t} k m) = go (compare_weight s t)
  where
    go : Compared s t → some s ≡ some t
    go (is_lighter p) = absurd (m s h p)
    go (is_equal e) = ap some e
    go (is_heavier p) = absurd (l t k p)
