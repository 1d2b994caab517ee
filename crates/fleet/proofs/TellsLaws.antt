-- LAWS. What a test's answer tells.
use mathlib.Core.Path.{◌≡◌, refl, sym, ap, ◌∙◌}
use mathlib.Core.Logic.{◌≢◌}
use mathlib.Core.Bool.{Bool, true, false, not, true≢false}
use mathlib.Core.List.{List, []}
use Prim.Native.Nat.{ℕ, ◌-◌, ◌≤◌, ◌<◌}
use native.Mathlib.Omega.{arith}
use lib.Dec.{eqb, ltb, leb}
use lib.ListN.{get_or}
use borrow.Author.Tests.{eqb-true, eqb-false, ltb-true, ltb-false, leb-true, leb-false}
use Rattle.terms.specs.Tells.{Tells}
use Rattle.terms.specs.Fleet.{family, marks, MayStandUnder, most_trees, most_nodes_of_a_tree, most_nodes, most_depth}
use Rattle.fleet.specs.Numbers.{DepthFits, FamilyFits, RoomLeft}

pub told_yes : (b : Bool) {R : Type 0} → Tells b R → b ≡ true → R
told_yes true t e = t
told_yes false t e = absurd (true≢false (sym e))

pub told_no : (b : Bool) {R : Type 0} → Tells b R → b ≡ false → ¬ R
told_no true t e = absurd (true≢false e)
told_no false t e = t

pub broken : (b : Bool) {R : Type 0} → Tells b R → not b ≡ true → ¬ R
broken true t e = absurd (true≢false (sym e))
broken false t e = t

pub kept : (b : Bool) {R : Type 0} → Tells b R → not b ≡ false → R
kept true t e = t
kept false t e = absurd (true≢false e)

-- a comparison as the answer: it tells what is so exactly if the comparison holds
pub tells_if : (b : Bool) {R : Type 0} → (b ≡ true → R) → (b ≡ false → ¬ R) → Tells b R
tells_if true f g = f refl
tells_if false f g = g refl

tells_eq : (a b : ℕ) {R : Type 0} → (a ≡ b → R) → (R → a ≡ b) → Tells (eqb a b) R
tells_eq a b f g = tells_if (eqb a b) (λ e. f (eqb-true a b e)) (λ e r. eqb-false a b e (g r))

tells_lt : (a b : ℕ) {R : Type 0} → (a < b → R) → (R → a < b) → Tells (ltb a b) R
tells_lt a b f g = tells_if (ltb a b) (λ e. f (ltb-true a b e)) (λ e r. let h = ltb-false a b e in let k = g r in absurd (omega arith))

tells_le : (a b : ℕ) {R : Type 0} → (a ≤ b → R) → (R → a ≤ b) → Tells (leb a b) R
tells_le a b f g = tells_if (leb a b) (λ e. f (leb-true a b e)) (λ e r. let h = leb-false a b e in let k = g r in absurd (omega arith))

pub kept_deep : (b : Bool) (nodes deeper depth : ℕ) → Tells b (DepthFits nodes deeper depth) → not b ≡ false → depth ≤ most_depth
kept_deep b nodes deeper depth t e = (kept b t e).1.1

-- the ways out of the tests of the rules 5, 7 and 9
pub marked : (table : List (List ℕ)) (below above : ℕ) → table ≡ marks → Tells (eqb (get_or (get_or table below []) above 0) 1) (MayStandUnder below above)
marked table below above e =
    let same = ap (λ (m : List (List ℕ)). get_or (get_or m below []) above 0) e in
    tells_eq (get_or (get_or table below []) above 0) 1 {R = MayStandUnder below above} (λ t. sym same ∙ t) (λ m. same ∙ m)

pub fits_first : (nodes deeper depth : ℕ) → depth ≤ most_depth → nodes ≡ 0 → Tells (eqb depth 0) (DepthFits nodes deeper depth)
fits_first nodes deeper depth h z = tells_eq depth 0 {R = DepthFits nodes deeper depth} (λ e. ((λ _. e), ((λ k. absurd (omega arith)), h))) (λ r. r.0 z)

pub fits_later : (nodes deeper depth : ℕ) → depth ≤ most_depth → nodes ≢ 0 → Tells (leb depth deeper) (DepthFits nodes deeper depth)
fits_later nodes deeper depth h n = tells_le depth deeper {R = DepthFits nodes deeper depth} (λ e. ((λ z. absurd (n z)), ((λ _. e), h))) (λ r. r.1.0 (omega arith))

pub family_of_root : (families : List ℕ) (depth label : ℕ) → depth ≡ 0 → Tells (eqb (family label) 1) (FamilyFits families depth label)
family_of_root families depth label z = tells_eq (family label) 1 {R = FamilyFits families depth label} (λ e. ((λ _. e), (λ k. absurd (omega arith)))) (λ r. r.0 z)

pub family_below : (b : Bool) (families : List ℕ) (depth label : ℕ) → depth ≢ 0 → Tells b (MayStandUnder (family label) (get_or families (depth - 1) 0)) → Tells b (FamilyFits families depth label)
family_below true families depth label n t = ((λ z. absurd (n z)), (λ _. t))
family_below false families depth label n t = λ r. t (r.1 (omega arith))

pub room_of_trees : (nodes trees in_tree depth : ℕ) → nodes < most_nodes → depth ≡ 0 → Tells (ltb trees most_trees) (RoomLeft nodes trees in_tree depth)
room_of_trees nodes trees in_tree depth h z = tells_lt trees most_trees {R = RoomLeft nodes trees in_tree depth} (λ e. ((λ _. e), ((λ k. absurd (omega arith)), h))) (λ r. r.0 z)

pub room_in_tree : (nodes trees in_tree depth : ℕ) → nodes < most_nodes → depth ≢ 0 → Tells (ltb in_tree most_nodes_of_a_tree) (RoomLeft nodes trees in_tree depth)
room_in_tree nodes trees in_tree depth h n = tells_lt in_tree most_nodes_of_a_tree {R = RoomLeft nodes trees in_tree depth} (λ e. ((λ z. absurd (n z)), ((λ _. e), h))) (λ r. r.1.0 (omega arith))
