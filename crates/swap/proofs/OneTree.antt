-- LAWS. A tree that a fleet could hold is, as a fleet of its own, one tree.
use mathlib.Core.Path.{◌≡◌, refl, sym, ap, ◌∙◌}
use mathlib.Core.Logic.{◌≢◌}
use mathlib.Core.Bool.{Bool, true, false, not}
use mathlib.Core.List.{List, [], ◌∷◌, ◌++◌, append-nil}
use Prim.Native.Nat.{ℕ, zero, suc, ◌-◌, ◌≤◌, ◌<◌}
use native.Mathlib.Omega.{arith}
use lib.Dec.{eqb}
use lib.ListN.{length, get_or, take}
use lib.Seq.{take-length}
use borrow.Author.Tests.{eqb-true, eqb-false}
use Rattle.terms.specs.Fleet.{IsFleet, IsVehicle, vehicles, end_to_end}
use Rattle.terms.specs.Tree.{depthAt, IsTree}
use Rattle.terms.specs.Tells.{decided}
use Rattle.terms.proofs.DecidedLaws.{says_yes, says_no, said_yes, said_no, denied, not_denied}
use Rattle.terms.proofs.FleetLaws.{fleet?, vehicle?}
use Rattle.terms.proofs.VehicleLaws.{AllDeep, AtRoot, cut}
use Rattle.vehicles.specs.Vehicle.{TreeEnd}
use Rattle.vehicles.proofs.StretchLaws.{one_more}
use Rattle.vehicles.proofs.StartLaws.{has_pairs}

-- a tree in front of trees is one vehicle more
tree_first : (tree rest : List ℕ) → IsTree tree → AtRoot rest → vehicles (tree ++ rest) ≡ tree ∷ vehicles rest
unfolding AllDeep
tree_first [] rest t a = absurd (omega (arith, t.has_root))
tree_first (x ∷ tree) rest t a = cut x tree rest (λ i h. t.later_from_1 i (omega arith)) a

-- trees end to end have these trees
pub vehicles_of : (trees : List (List ℕ)) → ((n : ℕ) → n < length trees → IsTree (get_or trees n [])) → vehicles (end_to_end trees) ≡ trees
unfolding end_to_end vehicles
vehicles_of [] f = refl
vehicles_of (tree ∷ trees) f =
    tree_first tree (end_to_end trees) (f 0 (omega arith)) (at_root trees (λ n h. f (suc n) (omega arith)))
    ∙ ap (λ (ts : List (List ℕ)). tree ∷ ts) (vehicles_of trees (λ n h. f (suc n) (omega arith)))
  where
    first : (tree rest : List ℕ) → IsTree tree → AtRoot (tree ++ rest)
    first [] rest t h = absurd (omega (arith, t.has_root))
    first (x ∷ tree) rest t h = t.root_depth

    at_root : (ts : List (List ℕ)) → ((n : ℕ) → n < length ts → IsTree (get_or ts n [])) → AtRoot (end_to_end ts)
    at_root [] g h = absurd (omega arith)
    at_root (t ∷ ts) g h = first t (end_to_end ts) (g 0 (omega arith)) h

-- a vehicle's tree is a fleet, of one tree
single : (tree : List ℕ) → IsVehicle tree → vehicles tree ≡ tree ∷ []
unfolding vehicles
single tree v = ap vehicles (sym (append-nil tree)) ∙ tree_first tree [] v.is_tree (λ h. absurd (omega arith))

fleet_of_one : (tree : List ℕ) → IsVehicle tree → IsFleet tree
fleet_of_one tree v =
    let e = single tree v in
    let n : length (vehicles tree) ≡ 1 = ap length e in
    record { some_tree = omega arith; trees = omega arith; nodes = omega (arith, v.nodes); each = λ i h. let z : i ≡ 0 = omega arith in rw (z, e) v }

-- behind its root all are deeper
deep : {tree : List ℕ} → IsTree tree → (i : ℕ) → 0 < i → i < length tree → 1 ≤ depthAt tree i
deep t zero h k = absurd (omega arith)
deep t (suc i) h k = t.later_from_1 i k

-- the ways out of is_vehicle
module _ (tree : List ℕ) (b : Bool) (e : b ≡ decided (fleet? tree)) where
  pub no_vehicle : not b ≡ true → false ≡ decided (vehicle? tree)
  no_vehicle h = says_no (vehicle? tree) (λ v. said_no (fleet? tree) (denied b h ∙ e) (fleet_of_one tree v))

  pub one_vehicle : (end : ℕ) → not b ≡ false → TreeEnd tree 0 end → eqb end (length tree) ≡ decided (vehicle? tree)
  one_vehicle end h t = go (eqb end (length tree)) refl
    where
      fleet : IsFleet tree
      fleet = said_yes (fleet? tree) (not_denied b h ∙ e)

      some : 1 ≤ length tree
      some = has_pairs tree fleet.some_tree

      whole : end ≡ length tree → IsVehicle tree
      whole q =
          let one = one_more tree 0 end (t.of_tree some) in
          let size : end - 0 ≡ length tree = omega arith in
          let first : get_or (vehicles tree) 0 [] ≡ tree = ap (λ (ts : List (List ℕ)). get_or ts 0 []) one ∙ ap (λ (n : ℕ). take n tree) size ∙ take-length tree in
          rw first at (fleet.each 0 fleet.some_tree)

      part : end ≢ length tree → ¬ IsVehicle tree
      part n v =
          let ends = t.of_tree some in
          let inside : end < length tree = omega (arith, ends.within) in
          absurd (omega (arith, ends.next inside, deep v.is_tree end ends.after inside))

      go : (a : Bool) → eqb end (length tree) ≡ a → a ≡ decided (vehicle? tree)
      go true q = says_yes (vehicle? tree) (whole (eqb-true end (length tree) q))
      go false q = says_no (vehicle? tree) (part (eqb-false end (length tree) q))
