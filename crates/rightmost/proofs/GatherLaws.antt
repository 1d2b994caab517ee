-- LAWS. The counts of all pairs that may follow, gathered from the list of places: place by place, level by level.
use mathlib.Core.Path.{◌≡◌, sym, ap, ◌∙◌}
use mathlib.Core.Logic.{◌↔◌, ⊎_elim}
use mathlib.Core.List.{List}
use Prim.Native.Nat.{ℕ, suc, ◌+◌, ◌-◌, ◌≤◌, ◌<◌}
use native.Mathlib.Omega.{arith}
use lib.ListN.{length, get_or}
use Rattle.terms.specs.Tree.{IsTree}
use Rattle.terms.specs.Fleet.{vehicles}
use Rattle.occurrence.specs.Support.{whole_support}
use Rattle.rightmost.specs.Ends.{LastPlace, last_of, Up, itself, above, NewChild}
use Rattle.rightmost.specs.Vehicles.{VehiclesNumbered, Spare, Noted, NotedFrom}
use Rattle.rightmost.specs.PlaceList.{Before, Places, Tally, steps_to}
use Rattle.rightmost.proofs.UpLaws.{up_inside}
use Rattle.rightmost.proofs.BranchLaws.{last_inside}
use Rattle.rightmost.proofs.LongerLaws.{longer}
use Rattle.rightmost.proofs.FleetPlaces.{same_vehicle}
use Rattle.rightmost.proofs.PlaceOrder.{up_split}
use Rattle.rightmost.proofs.TallyLaws.{tally_same}
use Rattle.rightmost.proofs.TestLaws.{tallied_support}

-- ancestors one after the other
pub up_join : {s : List ℕ} {r d j m w : ℕ} → Up s r m d → Up s d j w → Up s r (m + j) w
up_join {s} {r} {d} {m = m} u (itself e) = let z : m + 0 ≡ m = omega arith in rw (z, e) u
up_join {s} {r} {d} {m = m} u (above {k = k} p v) = let z : m + suc k ≡ suc (m + k) = omega arith in let y : Up s r (m + k) _ = up_join u v in rw z (above p y)

-- two nodes with one ancestor have all above it in common
pub up_common : {s : List ℕ} {c d j k v w : ℕ} → Up s c j v → Up s c j w → j ≤ k → Up s d k v → Up s d k w
up_common {s} {c} {d} {j} {k} {v} {w} u u' h t = let z : k - j + j ≡ k = omega arith in rw z at (up_join (up_split u t h) u')

module _ {fleet table : List ℕ} (n : VehiclesNumbered fleet table) where
  -- a node and its ancestors have one number
  pub same_number : {d k w : ℕ} → Up fleet d k w → w < length fleet → get_or table d 0 ≡ get_or table w 0
  same_number {d} {k} {w} u h =
      let z = n.covers w h in
      let v = n.each z.0 z.1 in
      let r = v.only w h z.2 in
      let y = same_vehicle v.stands u h r.0 r.1 in
      v.has d y.0 y.1 ∙ sym z.2

  -- along places in order numbers never fall
  pub numbers_rise : {k v w : ℕ} → Before fleet k v w → v < length fleet → w < length fleet → get_or table v 0 ≤ get_or table w 0
  numbers_rise {k} {v} {w} b h l = omega (arith, same_number b.up_v h, same_number b.up_w l, n.rising b.root_v b.root_w (⊎_elim (λ o. less o) (λ o. equal o.0) b.order) (up_inside b.up_w l))
    where
      less : b.root_v < b.root_w → b.root_v ≤ b.root_w
      less o = omega arith

      equal : b.root_v ≡ b.root_w → b.root_v ≤ b.root_w
      equal o = omega arith

pub place_inside : {p q : List ℕ} {w : ℕ} → IsTree p → LastPlace p q w → w < length q
place_inside {p} t z = omega (arith, z.there, z.placing.to_last (last_of p) (last_inside p t))

-- THE NUMBERS THAT CAME for a pair x, child of b
module _ {p : List ℕ} {x b : ℕ} {fleet table places : List ℕ} where
  pub noted_none : (number : ℕ) → ¬ NotedFrom p x b fleet table places 0 number
  noted_none number z = omega (arith, z.among)

  -- it shares b's place, or a node below b's place, with an earlier one: its number had come
  pub noted_seen : VehiclesNumbered fleet table → IsTree p → Places p fleet places → (n m c j : ℕ) → m < n → n < length places → j ≤ steps_to p b → Up fleet c j (get_or places m 0) → Up fleet c j (get_or places n 0)
      → Spare p x b fleet (get_or places n 0) → NotedFrom p x b fleet table places n (get_or table (get_or places n 0) 0)
  noted_seen nb t ps n m c j h l k u u' s = record { index = m; among = h; spare = record { d = s.d; last_place = ps.each m (omega arith); up = up_common u' u k s.up; more = s.more }; in_vehicle = sym (same_number nb u (inside m (omega arith))) ∙ same_number nb u' (inside n l) }
    where
      inside : (i : ℕ) → i < length places → get_or places i 0 < length fleet
      inside i q = place_inside t (ps.each i q)

  -- after all places: all vehicles that hold the longer pattern
  pub noted_all : Places p fleet places → (v : ℕ) → Noted p x b fleet table v ↔ NotedFrom p x b fleet table places (length places) v
  noted_all ps v = (to, λ z. record { place = get_or places z.index 0; spare = z.spare; in_vehicle = z.in_vehicle })
    where
      to : Noted p x b fleet table v → NotedFrom p x b fleet table places (length places) v
      to z =
          let y = ps.none_missing z.place z.spare.last_place in
          record { index = y.0; among = y.1; spare = rw y.2 z.spare; in_vehicle = ap (λ (i : ℕ). get_or table i 0) y.2 ∙ z.in_vehicle }

  -- THE CLAIM: the count kept over all places is the whole support of the longer pattern.
  pub gathered_support : {last count : ℕ} → VehiclesNumbered fleet table → NewChild p x b → Places p fleet places → Tally (NotedFrom p x b fleet table places (length places)) (suc (length (vehicles fleet))) last count → whole_support fleet (longer p x) ≡ count
  gathered_support nb e ps t = tallied_support nb e (tally_same (noted_all ps) t)
