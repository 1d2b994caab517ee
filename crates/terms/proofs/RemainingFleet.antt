-- LAWS. A fleet without the nodes left out is a fleet, vehicle by vehicle; and what is claimed of left-out nodes (specs/Claims).
use mathlib.Core.Path.{◌≡◌, refl, sym, ap, ◌∙◌}
use mathlib.Core.List.{List, [], ◌∷◌, ◌++◌}
use mathlib.Core.Logic.{◌↔◌}
use Prim.Native.Nat.{ℕ, zero, suc, ◌+◌, ◌/◌, ◌≤◌, ◌<◌}
use native.Mathlib.Omega.{arith}
use lib.ListN.{length, get_or, get_or-append}
use Rattle.terms.specs.Tree.{IsTree}
use Rattle.terms.specs.Fleet.{vehicles, end_to_end, IsVehicle}
use Rattle.terms.specs.LeftOut.{LeftOut, LeftOutOfEach, OccursWithout, remaining, each_remaining}
use Rattle.terms.specs.Placing.{Occurs}
use Rattle.terms.specs.Claims.{PlacedWithoutExactly, PlacedWithoutOnce, HeaviestWithoutExactly, FleetWithout}
use Rattle.terms.proofs.VehicleLaws.{AllDeep, AtRoot, cut, vehicles_join}
use Rattle.terms.proofs.RemainingLaws.{remaining_is, remaining_append}
use Rattle.terms.proofs.RemainingTree as tree
use Rattle.terms.proofs.RemainingPlacing as placing

-- ONE TREE
pub placed_without_exactly : PlacedWithoutExactly
placed_without_exactly s Out out? t c pattern m = placing.placing_exactly (remaining_is s out?) t c pattern m

pub placed_without_once : PlacedWithoutOnce
placed_without_once s Out out? t c pattern m n a b e = placing.placing_once (remaining_is s out?) t c pattern m n a b e

pub heaviest_without_exactly : HeaviestWithoutExactly
heaviest_without_exactly s Out out? t c pattern m = placing.heaviest_exactly (remaining_is s out?) t c pattern m

pub occurs_without_exactly : {s : List ℕ} {Out : ℕ → Type 0} (out? : (i : ℕ) → Dec (Out i)) → IsTree s → LeftOut s Out → (pattern : List ℕ) → OccursWithout Out pattern s ↔ Occurs pattern (remaining out? s)
occurs_without_exactly {s} {Out} out? t c pattern = (
  (λ o. let z = (placed_without_exactly s Out out? t c pattern o.tuple).0 o.placing in record { tuple = z.0; placing = z.1 }),
  (λ o. record { tuple = _; placing = (placed_without_exactly s Out out? t c pattern _).1 (o.tuple, o.placing, refl) }),
)

pub no_more_remain : (s : List ℕ) {Out : ℕ → Type 0} (out? : (i : ℕ) → Dec (Out i)) → length (remaining out? s) ≤ length s
no_more_remain s out? = tree.no_more (remaining_is s out?)

-- TREES END TO END
AllTrees : List (List ℕ) → Type 0
AllTrees ts = (n : ℕ) → n < length ts → IsTree (get_or ts n [])

at_root : (ts : List (List ℕ)) → AllTrees ts → AtRoot (end_to_end ts)
unfolding end_to_end AllTrees
at_root [] a h = absurd (omega arith)
at_root (t ∷ ts) a h =
    let w = a 0 (omega arith) in
    ap (λ (x : ℕ). x / 1000) (get_or-append t (end_to_end ts) 0 0 w.has_root) ∙ w.root_depth

-- they are the vehicles' trees
pub vehicles_of_trees : (ts : List (List ℕ)) → ((n : ℕ) → n < length ts → IsTree (get_or ts n [])) → vehicles (end_to_end ts) ≡ ts
unfolding AllDeep end_to_end vehicles AllTrees
vehicles_of_trees [] a = refl
vehicles_of_trees (t ∷ ts) a = go t (a 0 (omega arith)) (vehicles_of_trees ts rest)
  where
    rest : AllTrees ts
    rest n h = a (suc n) (omega arith)

    go : (u : List ℕ) → IsTree u → vehicles (end_to_end ts) ≡ ts → vehicles (u ++ end_to_end ts) ≡ u ∷ ts
    go [] w e = absurd (omega (arith, w.has_root))
    go (x ∷ u) w e = cut x u (end_to_end ts) (λ i h. w.later_from_1 i (omega arith)) (at_root ts rest) ∙ ap (λ (r : List (List ℕ)). (x ∷ u) ∷ r) e

pub remaining_joined : (ts : List (List ℕ)) {Out : ℕ → Type 0} (out? : (i : ℕ) → Dec (Out i)) → remaining out? (end_to_end ts) ≡ end_to_end (each_remaining out? ts)
unfolding end_to_end each_remaining remaining
remaining_joined [] out? = refl
remaining_joined (t ∷ ts) out? =
    remaining_append t (end_to_end ts) out? (λ i. out? (length t + i)) (λ i h. ((λ o. o), (λ o. o)))
    ∙ ap (λ (r : List ℕ). remaining out? t ++ r) (remaining_joined ts (λ i. out? (length t + i)))

as_many : (ts : List (List ℕ)) {Out : ℕ → Type 0} (out? : (i : ℕ) → Dec (Out i)) → length (each_remaining out? ts) ≡ length ts
unfolding each_remaining
as_many [] out? = refl
as_many (t ∷ ts) out? = ap suc (as_many ts (λ i. out? (length t + i)))

each_vehicle : (ts : List (List ℕ)) → ((n : ℕ) → n < length ts → IsVehicle (get_or ts n [])) → {Out : ℕ → Type 0} (out? : (i : ℕ) → Dec (Out i)) → LeftOutOfEach ts Out
    → (n : ℕ) → n < length ts → IsVehicle (get_or (each_remaining out? ts) n [])
unfolding each_remaining LeftOutOfEach
each_vehicle [] a out? c n h = absurd (omega arith)
each_vehicle (t ∷ ts) a out? c zero h = let v = a 0 (omega arith) in tree.remaining_vehicle (remaining_is t out?) v.is_tree c.0 v
each_vehicle (t ∷ ts) a out? c (suc n) h = each_vehicle ts (λ k q. a (suc k) (omega arith)) (λ i. out? (length t + i)) c.1 n (omega arith)

-- THE FLEET
pub fleet_without : FleetWithout
fleet_without fleet Out out? f c = (
  record {
    some_tree = omega (arith, ap length trees, as_many (vehicles fleet) out?, f.some_tree);
    trees = omega (arith, ap length trees, as_many (vehicles fleet) out?, f.trees);
    nodes = omega (arith, no_more_remain fleet out?, f.nodes);
    each = rw trees each;
  },
  trees,
)
  where
    each : (n : ℕ) → n < length (each_remaining out? (vehicles fleet)) → IsVehicle (get_or (each_remaining out? (vehicles fleet)) n [])
    each n h = each_vehicle (vehicles fleet) f.each out? c n (omega (arith, as_many (vehicles fleet) out?))

    trees : vehicles (remaining out? fleet) ≡ each_remaining out? (vehicles fleet)
    trees =
        ap (λ (s : List ℕ). vehicles (remaining out? s)) (sym (vehicles_join fleet))
        ∙ ap vehicles (remaining_joined (vehicles fleet) out?)
        ∙ vehicles_of_trees (each_remaining out? (vehicles fleet)) (λ n h. (each n h).is_tree)
