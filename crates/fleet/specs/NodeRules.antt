-- The rules of a node in their order. Each is decided; a decision is known by its type.
use Rattle.std.specs.Prelude.{List, [], ◌∷◌, ◌++◌, ℕ, suc, length, get_or}
use Rattle.std.proofs.Math.Decide.{dec_lt, dec_le, ℕ_discrete}
use Rattle.terms.specs.Tree.{pair, label_at, IsParent}
use Rattle.terms.specs.Fleet.{vehicles, in_front, family, marks, MayStandUnder, most_trees, most_nodes_of_a_tree, most_nodes, most_depth}
use Rattle.terms.specs.Refusal.{Rule}
use Rattle.terms.proofs.Decide.{both?, map?, implies?, all_below?, within?}
use Rattle.terms.proofs.TreeLaws.{parent?}
use Rattle.fleet.specs.Node.{last_depth, last_of, last_tree, DepthAllowed, LabelAllowed, FamilyAllowed, WithinLimits}

unfoldable pub depth_allowed? : (before : List ℕ) (depth : ℕ) → Dec (DepthAllowed before depth)
unfolding both? implies? dec_le ℕ_discrete
depth_allowed? before depth = both? (implies? (ℕ_discrete (length before) 0) (ℕ_discrete depth 0)) (both? (implies? (dec_le 1 (length before)) (dec_le depth (suc (last_depth before)))) (dec_le depth most_depth))

unfoldable pub label_allowed? : (label : ℕ) → Dec (LabelAllowed label)
unfolding within?
label_allowed? label = within? 1 label 999

unfoldable pub family_allowed? : (before : List ℕ) (depth label : ℕ) → Dec (FamilyAllowed before depth label)
unfolding both? implies? map? all_below? parent? ℕ_discrete marks vehicles in_front last_of
family_allowed? before depth label = both? (implies? (ℕ_discrete depth 0) (ℕ_discrete (family label) 1))
    (map? (λ f i p. f i p.before p) (λ f i _ p. f i p)
    (all_below? (λ i. IsParent (last_tree before ++ pair depth label ∷ []) i (length (last_tree before)) → MayStandUnder (family label) (family (label_at (last_tree before) i)))
    (λ i. implies? (parent? (last_tree before ++ pair depth label ∷ []) i (length (last_tree before))) (ℕ_discrete (get_or (get_or marks (family label) []) (family (label_at (last_tree before) i)) 0) 1))
    (length (last_tree before))))

unfoldable pub within_limits? : (before : List ℕ) (depth : ℕ) → Dec (WithinLimits before depth)
unfolding both? implies? dec_le dec_lt ℕ_discrete vehicles in_front last_of
within_limits? before depth = both? (implies? (ℕ_discrete depth 0) (dec_lt (length (vehicles before)) most_trees))
    (both? (implies? (dec_le 1 depth) (dec_lt (length (last_tree before)) most_nodes_of_a_tree)) (dec_lt (length before) most_nodes))

-- Whether a node fits behind those before it: 5, 6, 7.
unfoldable pub fit_rules : (before : List ℕ) (depth label : ℕ) → List Rule
unfolding depth_allowed? label_allowed? family_allowed?
fit_rules before depth label =
    record { number = 5; Kept = DepthAllowed before depth; decide = depth_allowed? before depth }
    ∷ record { number = 6; Kept = LabelAllowed label; decide = label_allowed? label }
    ∷ record { number = 7; Kept = FamilyAllowed before depth label; decide = family_allowed? before depth label }
    ∷ []

-- Whether the fleet has room for it: 9.
unfoldable pub limit_rule : (before : List ℕ) (depth : ℕ) → Rule
unfolding within_limits?
limit_rule before depth = record { number = 9; Kept = WithinLimits before depth; decide = within_limits? before depth }

-- The rules of a node: 5, 6, 7 and 9. In a record the rule of its fields, 8, stands between.
unfoldable pub node_rules : (before : List ℕ) (depth label : ℕ) → List Rule
unfolding fit_rules limit_rule
node_rules before depth label = fit_rules before depth label ++ limit_rule before depth ∷ []
