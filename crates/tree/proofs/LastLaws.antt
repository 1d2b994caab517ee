-- LAWS. What `rposition` finds in a slice: the last element that passes a test.
use Rattle.std.proofs.Common.{◌≡◌, ℕ, ◌+◌, ◌-◌, ◌<◌, Bool, true, false, List, Option, Some, None, get_or, length, MatchOption, arith}
use Rattle.std.specs.Bool.{IsTrue}
use Rattle.std.specs.Fn.{Called}
use Rattle.std.specs.Iterator.Runs.{Run, ItemsMapToReversed, AllItemsGive, IsFirstToGive, CallKeepsClosure}
use Rattle.std.specs.Option.{option_map, IfSome, IsSomeAnd}
use denote.Param.Members.{Mut}
use denote.Ref.{Bor}

-- no element passes, or the one at i does, and none behind it
abbrev pub IsLast : (xs : List ℕ) (Yes No : ℕ → Type 0) → Option ℕ → Type 0
IsLast xs Yes No r = MatchOption r ((k : ℕ) → k < length xs → No (get_or xs k 0)) (λ i. (i < length xs) × Yes (get_or xs i 0) × ((k : ℕ) → i < k → k < length xs → No (get_or xs k 0)))

-- what is said of an item is so of the element that it lends
of_item : (P : ℕ → Type 0) (C : Bor ℕ → Type 0) (o : Option (Bor ℕ)) (v : ℕ) → option_map (λ (y : Bor ℕ). y.now) o ≡ Some v → IfSome o C → ((x : Bor ℕ) → C x → P x.now) → P v
of_item P C None v e c f = absurd (cc)
of_item P C (Some x) v e c f = let z : x.now ≡ v = cc in rw z at (f x c)

of_found : (P : ℕ → Type 0) (C : Bor ℕ → Type 0) (o : Option (Bor ℕ)) (v : ℕ) → option_map (λ (y : Bor ℕ). y.now) o ≡ Some v → IsSomeAnd o C → ((x : Bor ℕ) → C x → P x.now) → P v
of_found P C None v e c f = absurd c
of_found P C (Some x) v e c f = of_item P C (Some x) v e c f

module _ {S F : Type 0} {steps : S → Option (Bor ℕ) → S → Type 0} {g : Mut F (Bor ℕ × Unit {0}) Bool} (f : F) (p : Run steps) (xs ys : List ℕ) (items : ItemsMapToReversed p (λ y. y.now) xs) (same : xs ≡ ys)
    (Yes No : ℕ → Type 0) where
  pub IsLast-from_rposition : (r : Option ℕ) (n : ℕ) → length ys ≡ n → IfSome r (λ i. i < n)
      → MatchOption r (IsTrue p.whole × AllItemsGive p g f false) (λ i. (i + p.len ≡ n) × IsFirstToGive p g f true false (n - 1 - i))
      → CallKeepsClosure g f → ((x : Bor ℕ) → Called g f (x, tt) true f → Yes x.now) → ((x : Bor ℕ) → Called g f (x, tt) false f → No x.now) → IsLast ys Yes No r
  IsLast-from_rposition r n e b m keeps y z = go r b m
    where
      at : ItemsMapToReversed p (λ y. y.now) ys
      at = rw same at items

      go : (r : Option ℕ) → IfSome r (λ i. i < n) → MatchOption r (IsTrue p.whole × AllItemsGive p g f false) (λ i. (i + p.len ≡ n) × IsFirstToGive p g f true false (n - 1 - i)) → IsLast ys Yes No r
      go None b m = λ k l. let w = at.1 m.0 in of_item No _ (p.at (length ys - 1 - k)) (get_or ys k 0) (at.2 k 0 l (omega arith)) (m.1 keeps (length ys - 1 - k)) z
      go (Some i) b m = let h = rw (← e) at (m.1 keeps) in (
        omega arith,
        of_found Yes _ (p.at (length ys - 1 - i)) (get_or ys i 0) (at.2 i 0 (omega arith) (omega arith)) h.0 y,
        λ k l q. of_found No _ (p.at (length ys - 1 - k)) (get_or ys k 0) (at.2 k 0 q (omega arith)) (h.1 (length ys - 1 - k) (omega arith)) z,
      )
