-- LAWS. The loop of `count_trees`: stretch by stretch through a fleet, one vehicle more, counted if the pattern occurs in it.
use mathlib.Core.Path.{◌≡◌, ap}
use mathlib.Core.List.{List, [], ◌∷◌}
use Prim.Native.Nat.{ℕ, suc, ◌+◌, ◌≤◌, ◌<◌}
use native.Mathlib.Omega.{arith}
use lib.ListN.{length, get_or, drop, drop_of_length-le}
use Rattle.terms.specs.Placing.{Occurs}
use Rattle.terms.specs.Fleet.{vehicles, IsVehicle}
use Rattle.vehicles.specs.Vehicle.{EndsAt, stretch}
use Rattle.vehicles.proofs.StretchLaws.{one_more}
use Rattle.occurrence.specs.Support.{occurring, whole_support}
use Rattle.matching.specs.FitsSteps.{OccursInput}
use Rattle.occurrence.specs.CountSteps.{CountInput}
use Rattle.occurrence.proofs.SupportLaws.{occurring_yes, occurring_no}

-- what is counted, and what is left
pub record CountInv (s p : List ℕ) (count places : ℕ) : Type 0 where
  pub input : CountInput s p
  pub within : places ≤ length s
  pub few : count ≤ places
  pub each : (n : ℕ) → n < length (vehicles (drop places s)) → IsVehicle (get_or (vehicles (drop places s)) n [])
  pub total : count + occurring p (vehicles (drop places s)) ≡ whole_support s p

pub count_start : (s p : List ℕ) → CountInput s p → CountInv s p 0 0
unfolding whole_support
count_start s p a = record { input = a; within = omega arith; few = omega arith; each = a.is_fleet.each; total = omega arith }

pub count_end : (s p : List ℕ) (count places : ℕ) → CountInv s p count places → length s ≤ places → count ≡ whole_support s p
unfolding vehicles occurring
count_end s p count places v h =
    let e : vehicles (drop places s) ≡ [] = ap vehicles (drop_of_length-le s h) in
    let t : count + occurring p [] ≡ whole_support s p = rw e at v.total in
    omega arith

module _ (s p : List ℕ) (count places to : ℕ) (v : CountInv s p count places) (e : EndsAt s places to) where
  vehicle : IsVehicle (stretch s places to)
  vehicle =
      let q = one_more s places to e in
      let f : (n : ℕ) → n < length (stretch s places to ∷ vehicles (drop to s)) → IsVehicle (get_or (stretch s places to ∷ vehicles (drop to s)) n []) = rw q at v.each in
      f 0 (omega arith)

  pub occurs_input : OccursInput p (stretch s places to)
  occurs_input = record { pattern_is_tree = v.input.is_tree; tree_is_tree = vehicle.is_tree; pattern_nodes = v.input.pattern_nodes; tree_nodes = vehicle.nodes }

  next : (count' : ℕ) → count' ≤ count + 1 → count' + occurring p (vehicles (drop to s)) ≡ count + occurring p (stretch s places to ∷ vehicles (drop to s)) → CountInv s p count' to
  next count' b c = record {
    input = v.input;
    within = e.within;
    few = omega (arith, v.few, e.after);
    each = λ n h. f (suc n) (omega arith);
    total = let t : count + occurring p (stretch s places to ∷ vehicles (drop to s)) ≡ whole_support s p = rw q at v.total in omega arith;
  }
    where
      q : vehicles (drop places s) ≡ stretch s places to ∷ vehicles (drop to s)
      q = one_more s places to e

      f : (n : ℕ) → n < length (stretch s places to ∷ vehicles (drop to s)) → IsVehicle (get_or (stretch s places to ∷ vehicles (drop to s)) n [])
      f = rw q at v.each

  pub next_holds : Occurs p (stretch s places to) → CountInv s p (count + 1) to
  next_holds o = next (count + 1) (omega arith) (omega (arith, occurring_yes (vehicles (drop to s)) o))

  pub next_not : ¬ Occurs p (stretch s places to) → CountInv s p count to
  next_not n = next count (omega arith) (omega (arith, occurring_no (vehicles (drop to s)) n))
