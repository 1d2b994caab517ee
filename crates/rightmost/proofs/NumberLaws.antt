-- LAWS. The table of vehicle numbers, by the rule that fills it: one more where a tree begins, else as before.
use mathlib.Core.Path.{◌≡◌, refl, ap, ◌∙◌}
use mathlib.Core.List.{List, [], ◌∷◌}
use Prim.Native.Nat.{ℕ, zero, suc, ◌+◌, ◌-◌, ◌≤◌, ◌<◌}
use native.Mathlib.Omega.{arith}
use native.Mathlib.Decide.{dec_lt, dec_le, ℕ_discrete}
use lib.ListN.{length, get_or, drop, drop_of_length-le}
use Rattle.terms.specs.Tree.{depthAt}
use Rattle.terms.specs.Fleet.{vehicles}
use Rattle.vehicles.specs.Vehicle.{EndsAt, stretch}
use Rattle.vehicles.proofs.StretchLaws.{one_more}
use Rattle.rightmost.specs.Vehicles.{Vehicle, VehicleNumbered, VehiclesNumbered}
use Rattle.matching.proofs.SizeLaws.{subtree_end}

-- How such a table is filled: 1 at the first node, one more where a tree begins, else as before.
pub record CountedUp (fleet table : List ℕ) : Type 0 where
  pub root : depthAt fleet 0 ≡ 0
  pub first : 1 ≤ length fleet → get_or table 0 0 ≡ 1
  pub more : (i : ℕ) → suc i < length fleet → depthAt fleet (suc i) ≡ 0 → get_or table (suc i) 0 ≡ suc (get_or table i 0)
  pub same : (i : ℕ) → suc i < length fleet → 1 ≤ depthAt fleet (suc i) → get_or table (suc i) 0 ≡ get_or table i 0

-- a tree that begins at a ends somewhere
pub vehicle_end : (s : List ℕ) (a : ℕ) → a < length s → depthAt s a ≡ 0 → (e : ℕ) × Vehicle s a e
vehicle_end s a h z =
    let r = subtree_end s a h in
    (r.0, record { starts = z; ends = record { after = r.1.after; within = r.1.within; deep = λ m k l. omega (arith, r.1.deeper m k l); next = λ k. omega (arith, r.1.stop k) } })

module _ {s table : List ℕ} (c : CountedUp s table) where
  up : (i : ℕ) → suc i < length s → get_or table i 0 ≤ get_or table (suc i) 0
  up i h = go (ℕ_discrete (depthAt s (suc i)) 0)
    where
      go : Dec (depthAt s (suc i) ≡ 0) → get_or table i 0 ≤ get_or table (suc i) 0
      go (yes e) = omega (arith, c.more i h e)
      go (no e) = omega (arith, c.same i h (omega arith))

  rising_by : (n v : ℕ) → v + n < length s → get_or table v 0 ≤ get_or table (v + n) 0
  rising_by zero v h = let e : v + 0 ≡ v = omega arith in rw e (omega arith)
  rising_by (suc n) v h = let e : v + suc n ≡ suc (v + n) = omega arith in rw e (omega (arith, rising_by n v (omega arith), up (v + n) (omega arith)))

  pub counted_rising : (v w : ℕ) → v ≤ w → w < length s → get_or table v 0 ≤ get_or table w 0
  counted_rising v w h l = let e : v + (w - v) ≡ w = omega arith in rw e at (rising_by (w - v) v (omega arith))

  -- within a vehicle one number
  within_by : (n a e : ℕ) → EndsAt s a e → a + n < e → get_or table (a + n) 0 ≡ get_or table a 0
  within_by zero a e t h = let q : a + 0 ≡ a = omega arith in rw q refl
  within_by (suc n) a e t h =
      let q : a + suc n ≡ suc (a + n) = omega arith in
      rw q (c.same (a + n) (omega (arith, t.within)) (t.deep (suc (a + n)) (omega arith) (omega arith)) ∙ within_by n a e t (omega arith))

  within : (a e w : ℕ) → EndsAt s a e → a ≤ w → w < e → get_or table w 0 ≡ get_or table a 0
  within a e w t h l = let q : a + (w - a) ≡ w = omega arith in rw q at (within_by (w - a) a e t (omega arith))

  -- where a vehicle begins, a number that was not before
  fresh : (w a : ℕ) → w < a → a < length s → depthAt s a ≡ 0 → get_or table w 0 < get_or table a 0
  fresh w zero h l z = absurd (omega arith)
  fresh w (suc a) h l z = omega (arith, c.more a l z, counted_rising w a (omega arith) (omega arith))

  one_vehicle : (i a e : ℕ) → Vehicle s a e → get_or table a 0 ≡ suc i → get_or (vehicles s) i [] ≡ stretch s a e → VehicleNumbered s table i
  one_vehicle i a e v z t = record { start = a; end = e; stands = v; tree = t; has = λ w h l. within a e w v.ends h l ∙ z; only = only }
    where
      only : (w : ℕ) → w < length s → get_or table w 0 ≡ suc i → (a ≤ w) × (w < e)
      only w h q = (low (dec_le a w), high (dec_lt w e))
        where
          low : Dec (a ≤ w) → a ≤ w
          low (yes k) = k
          low (no k) = absurd (omega (arith, fresh w a (omega arith) (omega (arith, v.ends.after, v.ends.within)) v.starts))

          high : Dec (w < e) → w < e
          high (yes k) = k
          high (no k) = absurd (omega (arith, fresh a e v.ends.after (omega arith) (v.ends.next (omega arith)), counted_rising e w (omega arith) h))

  -- the next vehicle's number
  next_number : (a e k : ℕ) → Vehicle s a e → e < length s → get_or table a 0 ≡ suc k → get_or table e 0 ≡ suc (suc k)
  next_number a zero k v h z = absurd (omega (arith, v.ends.after))
  next_number a (suc e) k v h z = c.more e h (v.ends.next h) ∙ ap suc (within a (suc e) e v.ends (omega (arith, v.ends.after)) (omega arith) ∙ z)

  none_left : (e : ℕ) → length s ≤ e → length (vehicles (drop e s)) ≡ 0
  unfolding vehicles
  none_left e h = ap (λ (l : List ℕ). length (vehicles l)) (drop_of_length-le s h)

  record Found (trees : List (List ℕ)) (k i : ℕ) : Type 0 where
    start : ℕ
    end : ℕ
    stands : Vehicle s start end
    tree : get_or trees i [] ≡ stretch s start end
    number : get_or table start 0 ≡ suc (k + i)

  find : (i a k : ℕ) → a < length s → depthAt s a ≡ 0 → get_or table a 0 ≡ suc k → i < length (vehicles (drop a s)) → Found (vehicles (drop a s)) k i
  find zero a k h z q l =
      let v = vehicle_end s a h z in
      let m = one_more s a v.0 v.1.ends in
      record { start = a; end = v.0; stands = v.1; tree = ap (λ (t : List (List ℕ)). get_or t 0 []) m; number = q ∙ ap suc (omega arith) }
  find (suc i) a k h z q l = go (vehicle_end s a h z) (λ e y p r. find i e (suc k) y p r)
    where
      go : (v : (e : ℕ) × Vehicle s a e) → ((e : ℕ) → e < length s → depthAt s e ≡ 0 → get_or table e 0 ≡ suc (suc k) → i < length (vehicles (drop e s)) → Found (vehicles (drop e s)) (suc k) i) → Found (vehicles (drop a s)) k (suc i)
      go v r = at (dec_lt v.0 (length s))
        where
          m : vehicles (drop a s) ≡ stretch s a v.0 ∷ vehicles (drop v.0 s)
          m = one_more s a v.0 v.1.ends

          len : length (vehicles (drop a s)) ≡ suc (length (vehicles (drop v.0 s)))
          len = ap length m

          at : Dec (v.0 < length s) → Found (vehicles (drop a s)) k (suc i)
          at (yes y) =
              let f = r v.0 y (v.1.ends.next y) (next_number a v.0 k v.1 y q) (omega (arith, len)) in
              record { start = f.start; end = f.end; stands = f.stands; tree = ap (λ (t : List (List ℕ)). get_or t (suc i) []) m ∙ f.tree; number = f.number ∙ ap suc (omega arith) }
          at (no y) = absurd (omega (arith, len, none_left v.0 (omega arith)))

  cover : (n a k w : ℕ) → w < n + a → a ≤ w → w < length s → depthAt s a ≡ 0 → get_or table a 0 ≡ suc k → (i : ℕ) × (i < length (vehicles (drop a s))) × (get_or table w 0 ≡ suc (k + i))
  cover zero a k w b h l z q = absurd (omega arith)
  cover (suc n) a k w b h l z q = go (vehicle_end s a (omega arith) z) (λ e y p r t. cover n e (suc k) w y p l r t)
    where
      go : (v : (e : ℕ) × Vehicle s a e) → ((e : ℕ) → w < n + e → e ≤ w → depthAt s e ≡ 0 → get_or table e 0 ≡ suc (suc k) → (i : ℕ) × (i < length (vehicles (drop e s))) × (get_or table w 0 ≡ suc (suc k + i))) → (i : ℕ) × (i < length (vehicles (drop a s))) × (get_or table w 0 ≡ suc (k + i))
      go v r = at (dec_lt w v.0)
        where
          len : length (vehicles (drop a s)) ≡ suc (length (vehicles (drop v.0 s)))
          len = ap length (one_more s a v.0 v.1.ends)

          at : Dec (w < v.0) → (i : ℕ) × (i < length (vehicles (drop a s))) × (get_or table w 0 ≡ suc (k + i))
          at (yes y) = (0, omega (arith, len), within a v.0 w v.1.ends h y ∙ q ∙ ap suc (omega arith))
          at (no y) =
              let in_s : v.0 < length s = omega arith in
              let f = r v.0 (omega (arith, v.1.ends.after)) (omega arith) (v.1.ends.next in_s) (next_number a v.0 k v.1 in_s q) in
              let g = f.1 in
              (suc f.0, omega (arith, len), f.2 ∙ ap suc (omega arith))

  -- THE CLAIM: a table so filled numbers the vehicles.
  pub counted_numbered : 1 ≤ length s → VehiclesNumbered s table
  counted_numbered h = record { each = each; covers = λ w l. let z = cover (suc w) 0 0 w (omega arith) (omega arith) l c.root (c.first h) in (z.0, z.1, z.2 ∙ ap suc (omega arith)); rising = counted_rising }
    where
      each : (i : ℕ) → i < length (vehicles s) → VehicleNumbered s table i
      each i l = let f = find i 0 0 h c.root (c.first h) l in one_vehicle i f.start f.end f.stands (f.number ∙ ap suc (omega arith)) f.tree
