-- LAWS. The trees of a fleet, stretch by stretch: where one ends, and the one with a number.
use mathlib.Core.Path.{◌≡◌, refl, sym, ap, ◌∙◌}
use mathlib.Core.Logic.{◌≢◌}
use mathlib.Core.Bool.{Bool, true, false}
use mathlib.Core.List.{List, [], ◌∷◌, ◌++◌}
use Prim.Native.Nat.{ℕ, zero, suc, ◌+◌, ◌-◌, ◌/◌, ◌≤◌, ◌<◌}
use native.Mathlib.Omega.{arith}
use native.Mathlib.Decide.{dec_lt, ℕ_discrete}
use lib.ListN.{length, get_or, take, drop, length-drop, take-append-drop, get_or-eq_default}
use lib.Seq.{get_or-take, get_or-drop, drop-drop, length-take-le}
use Rattle.terms.specs.Fleet.{vehicles, IsVehicle, IsFleet}
use Rattle.terms.specs.Refusal.{refusal, this, later, none, also}
use Rattle.terms.specs.Tells.{decided}
use Rattle.terms.proofs.DecidedLaws.{true_holds, false_fails}
use Rattle.terms.proofs.FleetLaws.{fleet?}
use Rattle.terms.proofs.RefusalLaws.{first_broken_refusal, all_kept_refusal}
use Rattle.terms.proofs.VehicleLaws.{AllDeep, AtRoot, cut}
use Rattle.fleet.specs.Answering.{answer}
use Rattle.vehicles.specs.Vehicle.{EndsAt, TreeEnd, stretch, numbered, tree_numbered, vehicle_rules, vehicle_answer}
use Rattle.fleet.specs.declared.Answer.TheVariants.{Done, Refused}

-- the loop of tree_end: all from the beginning on are below it so far
pub record DeepTo (s : List ℕ) (from to : ℕ) : Type 0 where
  pub after : from < to
  pub within : to ≤ length s
  pub deep : (m : ℕ) → from < m → m < to → 1 ≤ get_or s m 0 / 1000

pub deep_start : (s : List ℕ) (from : ℕ) → from < length s → DeepTo s from (from + 1)
deep_start s from h = record { after = omega arith; within = omega arith; deep = λ m a b. absurd (omega arith) }

pub deep_on : (s : List ℕ) (from to : ℕ) → DeepTo s from to → to < length s → 1000 ≤ get_or s to 0 → DeepTo s from (to + 1)
deep_on s from to d h k = record { after = omega (arith, d.after); within = omega arith; deep = λ m a b. go m a b (ℕ_discrete m to) }
  where
    go : (m : ℕ) → from < m → m < to + 1 → Dec (m ≡ to) → 1 ≤ get_or s m 0 / 1000
    go m a b (yes e) = rw e (omega arith)
    go m a b (no e) = d.deep m a (omega arith)

-- the ways out of tree_end
pub ends_nowhere : (s : List ℕ) (from : ℕ) → length s ≤ from → TreeEnd s from (length s)
ends_nowhere s from h = record { of_tree = λ k. absurd (omega arith); of_none = λ _. refl }

ends_at : (s : List ℕ) (from to : ℕ) → DeepTo s from to → (to < length s → get_or s to 0 / 1000 ≡ 0) → TreeEnd s from to
ends_at s from to d n = record { of_tree = λ _. record { after = d.after; within = d.within; deep = d.deep; next = n }; of_none = λ h. absurd (omega (arith, d.after, d.within)) }

pub ends_here : (s : List ℕ) (from to : ℕ) → DeepTo s from to → get_or s to 0 < 1000 → TreeEnd s from to
ends_here s from to d k = ends_at s from to d (λ h. omega arith)

pub ends_last : (s : List ℕ) (from to : ℕ) → DeepTo s from to → length s ≤ to → TreeEnd s from to
ends_last s from to d k = ends_at s from to d (λ h. absurd (omega arith))

-- one vehicle more
split : (u w : List ℕ) → 1 ≤ length u → ((i : ℕ) → 1 ≤ i → i < length u → 1 ≤ get_or u i 0 / 1000) → AtRoot w → vehicles (u ++ w) ≡ u ∷ vehicles w
unfolding AllDeep
split [] w h d a = absurd (omega arith)
split (x ∷ t) w h d a = cut x t w (λ i b. d (suc i) (omega arith) (omega arith)) a

pub one_more : (s : List ℕ) (from to : ℕ) → EndsAt s from to → vehicles (drop from s) ≡ stretch s from to ∷ vehicles (drop to s)
one_more s from to e = ap vehicles (sym joined) ∙ split (stretch s from to) (drop to s) (omega (arith, len, e.after)) deep root
  where
    len : length (stretch s from to) ≡ to - from
    len = length-take-le (to - from) (drop from s) (omega (arith, length-drop from s, e.within))

    joined : stretch s from to ++ drop to s ≡ drop from s
    joined =
        let a = take-append-drop (to - from) (drop from s) in
        let b = drop-drop (to - from) from s in
        let c : from + (to - from) ≡ to = omega (arith, e.after) in
        let b' : drop (to - from) (drop from s) ≡ drop to s = b ∙ ap (λ (n : ℕ). drop n s) c in
        ap (λ (r : List ℕ). take (to - from) (drop from s) ++ r) (sym b') ∙ a

    deep : (i : ℕ) → 1 ≤ i → i < length (stretch s from to) → 1 ≤ get_or (stretch s from to) i 0 / 1000
    deep i h b =
        let c : i < to - from = omega (arith, len) in
        let q : get_or (stretch s from to) i 0 ≡ get_or s (from + i) 0 = get_or-take (to - from) (drop from s) i 0 c ∙ get_or-drop from s i 0 in
        rw q (e.deep (from + i) (omega arith) (omega arith))

    root : AtRoot (drop to s)
    root h =
        let b : to < length s = omega (arith, length-drop to s) in
        let z : to + 0 ≡ to = omega arith in
        let q : get_or (drop to s) 0 0 ≡ get_or s to 0 = get_or-drop to s 0 0 ∙ ap (λ (n : ℕ). get_or s n 0) z in
        rw q (e.next b)

-- a tree's number, from 1: what has nodes has a number, and the tree with a number of a fleet is a vehicle's
pub has_number : (trees : List (List ℕ)) (n : ℕ) → length (numbered trees n) ≢ 0 → (1 ≤ n) × (n ≤ length trees)
unfolding numbered
has_number trees zero h = absurd (h refl)
has_number trees (suc n) h = (omega arith, go (dec_lt n (length trees)))
  where
    go : Dec (n < length trees) → suc n ≤ length trees
    go (yes q) = q
    go (no q) = let z : get_or trees n [] ≡ [] = get_or-eq_default trees [] {n = n} (omega arith) in absurd (h (ap length z))

pub numbered_vehicle : (fleet : List ℕ) (n : ℕ) → IsFleet fleet → (1 ≤ n) × (n ≤ length (vehicles fleet)) → IsVehicle (tree_numbered fleet n)
unfolding numbered
numbered_vehicle fleet zero f h = let z = h.0 in absurd (omega arith)
numbered_vehicle fleet (suc n) f h = let z = h.1 in f.each n (omega arith)

-- the ways out of vehicle
module _ (fleet : List ℕ) (number : ℕ) (b : Bool) (e : b ≡ decided (fleet? fleet)) where
  not_named : length (tree_numbered fleet number) ≡ 0 → IsFleet fleet → ¬ ((1 ≤ number) × (number ≤ length (vehicles fleet)))
  not_named z f h = omega (arith, (numbered_vehicle fleet number f h).is_tree.has_root)

  pub vehicle_10 : b ≡ false → Refused 10 ≡ vehicle_answer fleet number
  unfolding vehicle_answer answer
  vehicle_10 t = let z : refusal (vehicle_rules fleet number) ≡ 10 = first_broken_refusal (this (false_fails (fleet? fleet) b e t) refl) in rw z refl

  pub vehicle_16 : (tree : List ℕ) → b ≡ true → tree ≡ tree_numbered fleet number → length tree ≡ 0 → Refused 16 ≡ vehicle_answer fleet number
  unfolding vehicle_answer answer
  vehicle_16 tree t q h =
      let f = true_holds (fleet? fleet) b e t in
      let z : refusal (vehicle_rules fleet number) ≡ 16 = first_broken_refusal (later f (this (not_named (rw q at h) f) refl)) in
      rw z refl

  pub vehicle_done : (tree : List ℕ) → b ≡ true → tree ≡ tree_numbered fleet number → length tree ≢ 0 → Done (length tree) ≡ vehicle_answer fleet number
  unfolding vehicle_answer answer
  vehicle_done tree t q h =
      let z : refusal (vehicle_rules fleet number) ≡ 0 = all_kept_refusal (also (true_holds (fleet? fleet) b e t) (also (has_number (vehicles fleet) number (rw q at h)) none)) in
      rw (z, q) refl
