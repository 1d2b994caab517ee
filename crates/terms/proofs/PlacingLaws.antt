-- LAWS. Where a pattern occurs there is one heaviest placing.
use mathlib.Core.Path.{◌≡◌, refl}
use mathlib.Core.List.{List, [], ◌∷◌}
use Prim.Native.Nat.{ℕ, suc, ◌<◌}
use native.Mathlib.Omega.{arith}
use lib.ListN.{length}
use Rattle.terms.specs.Order.{Lighter}
use Rattle.terms.specs.Placing.{Placing, HeaviestPlacing}
use Rattle.terms.specs.Claims.{HeaviestExists}
use Rattle.terms.proofs.OrderLaws.{compare_weight, Compared, is_lighter, is_equal, is_heavier, lighter_irrefl, lighter_trans}
use Rattle.terms.proofs.MatchingLaws.{placing?, placing_below}
use Rattle.terms.proofs.Collect.{Collected, collect, Member, member_some, first, later, Ascending, asc_cons}

pub heaviest_unique : {p t m n : List ℕ} → HeaviestPlacing p t m → HeaviestPlacing p t n → m ≡ n
heaviest_unique {m = m} {n = n} a b = go (compare_weight m n)
  where
    go : Compared m n → m ≡ n
    go (is_lighter h) = absurd (a.none_heavier n b.placing h)
    go (is_equal h) = h
    go (is_heavier h) = absurd (b.none_heavier m a.placing h)

-- the last of an ascending list is the heaviest
record Last (L : List (List ℕ)) : Type 0 where
  last : List ℕ
  member : Member last L
  heaviest : (t : List ℕ) → Member t L → ¬ Lighter last t

last_of : (L : List (List ℕ)) → Ascending L → 0 < length L → Last L
last_of [] a h = absurd (omega arith)
last_of (s ∷ []) a h = record { last = s; member = first refl; heaviest = only }
  where
    only : (t : List ℕ) → Member t (s ∷ []) → ¬ Lighter s t
    only t (first e) q = lighter_irrefl t (rw e at q)
    only t (later m) q = omega (arith, member_some m)
last_of (s ∷ t ∷ L) (asc_cons f a) h = go (last_of (t ∷ L) a (omega arith))
  where
    go : Last (t ∷ L) → Last (s ∷ t ∷ L)
    go z = record { last = z.last; member = later z.member; heaviest = all }
      where
        all : (u : List ℕ) → Member u (s ∷ t ∷ L) → ¬ Lighter z.last u
        all u (first e) q = let k : Lighter u z.last = rw e at (f z.last z.member) in lighter_irrefl u (lighter_trans k q)
        all u (later m) q = z.heaviest u m q

pub heaviest_exists : HeaviestExists
heaviest_exists p t o = go (last_of c.all c.ascending (member_some (inside o.tuple o.placing)))
  where
    c : Collected (suc (length t)) (length p) (λ m. Placing p t m)
    c = collect (suc (length t)) (length p) (λ m. Placing p t m) (placing? p t)

    inside : (m : List ℕ) → Placing p t m → Member m c.all
    inside m q = c.complete m (omega (arith, q.each_placed)) (placing_below q) q

    go : Last c.all → (m : List ℕ) × HeaviestPlacing p t m
    go z = (z.last, record { placing = c.sound z.last z.member; none_heavier = λ n q h. z.heaviest n (inside n q) h })
