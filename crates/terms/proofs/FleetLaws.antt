-- LAWS. Whether pairs are a fleet is decided.
use mathlib.Core.List.{List, []}
use Prim.Native.Nat.{ℕ, ◌≤◌, ◌<◌}
use native.Mathlib.Omega.{arith}
use native.Mathlib.Decide.{dec_le, ℕ_discrete}
use lib.ListN.{length, get_or}
use Rattle.terms.specs.Tree.{depthAt, label_at, IsParent}
use Rattle.terms.specs.Fleet.{vehicles, in_front, family, marks, MayStandUnder, IsVehicle, IsFleet, most_trees, most_nodes, most_nodes_of_a_tree, most_depth}
use Rattle.terms.proofs.Decide.{both?, map?, implies?, all_below?}
use Rattle.terms.proofs.TreeLaws.{tree?, parent?}

unfoldable pub families? : (t : List ℕ) → Dec ((i j : ℕ) → IsParent t i j → MayStandUnder (family (label_at t j)) (family (label_at t i)))
unfolding map? all_below? implies? parent? marks ℕ_discrete
families? t = map? (λ f i j p. let a = p.before in let b = p.inside in f i (omega arith) j b p) (λ f i _ j _ p. f i j p)
    (all_below? (λ i. (j : ℕ) → j < length t → IsParent t i j → MayStandUnder (family (label_at t j)) (family (label_at t i)))
    (λ i. all_below? (λ j. IsParent t i j → MayStandUnder (family (label_at t j)) (family (label_at t i)))
    (λ j. implies? (parent? t i j) (ℕ_discrete (get_or (get_or marks (family (label_at t j)) []) (family (label_at t i)) 0) 1)) (length t)) (length t))

unfoldable pub vehicle? : (t : List ℕ) → Dec (IsVehicle t)
unfolding map? both? all_below? tree? families? dec_le ℕ_discrete
vehicle? t = map?
    (λ h. record { is_tree = h.0; nodes = h.1.0; depths = h.1.1.0; root_family = h.1.1.1.0; families = h.1.1.1.1 })
    (λ v. (v.is_tree, (v.nodes, (v.depths, (v.root_family, v.families)))))
    (both? (tree? t) (both? (dec_le (length t) most_nodes_of_a_tree) (both? (all_below? (λ i. depthAt t i ≤ most_depth) (λ i. dec_le (depthAt t i) most_depth) (length t)) (both? (ℕ_discrete (family (label_at t 0)) 1) (families? t)))))

unfoldable pub fleet? : (pairs : List ℕ) → Dec (IsFleet pairs)
unfolding map? both? all_below? vehicle? vehicles in_front dec_le
fleet? pairs = map?
    (λ h. record { some_tree = h.0; trees = h.1.0; nodes = h.1.1.0; each = h.1.1.1 })
    (λ f. (f.some_tree, (f.trees, (f.nodes, f.each))))
    (both? (dec_le 1 (length (vehicles pairs))) (both? (dec_le (length (vehicles pairs)) most_trees) (both? (dec_le (length pairs) most_nodes)
    (all_below? (λ n. IsVehicle (get_or (vehicles pairs) n [])) (λ n. vehicle? (get_or (vehicles pairs) n [])) (length (vehicles pairs))))))
