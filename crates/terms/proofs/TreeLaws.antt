-- LAWS. Pairs, trees and parents are decided; a tree is a tree of any depth whose depths are at most 15.
use mathlib.Core.List.{List}
use Prim.Native.Nat.{ℕ, suc, ◌/◌, ◌%◌, ◌≤◌, ◌<◌}
use native.Mathlib.Omega.{arith}
use native.Mathlib.Decide.{dec_lt, dec_le, ℕ_discrete}
use lib.ListN.{length, get_or}
use Rattle.terms.specs.Tree.{IsParent, depthAt, IsPair, IsTree, IsTreeAnyDepth}
use Rattle.terms.proofs.Decide.{both?, map?, implies?, all_below?}

pub tree_any_depth : {s : List ℕ} → IsTree s → IsTreeAnyDepth s
tree_any_depth t = record { has_root = t.has_root; labels_from_1 = λ i h. (t.pairs i h).label_from_1; root_depth = t.root_depth; later_from_1 = t.later_from_1; later_to_next = t.later_to_next }

pub tree_to_15 : {s : List ℕ} → IsTreeAnyDepth s → ((i : ℕ) → i < length s → depthAt s i ≤ 15) → IsTree s
tree_to_15 v d = record { has_root = v.has_root; pairs = λ i h. record { depth_to_15 = d i h; label_from_1 = v.labels_from_1 i h }; root_depth = v.root_depth; later_from_1 = v.later_from_1; later_to_next = v.later_to_next }

unfoldable pub pair? : (x : ℕ) → Dec (IsPair x)
unfolding map? both? dec_le
pair? x = map? (λ h. record { depth_to_15 = h.0; label_from_1 = h.1 }) (λ p. (p.depth_to_15, p.label_from_1)) (both? (dec_le (x / 1000) 15) (dec_le 1 (x % 1000)))

unfoldable pub later? : (P : ℕ → Type 0) → ((i : ℕ) → Dec (P i)) → (n : ℕ) → Dec ((i : ℕ) → suc i < n → P i)
unfolding map? all_below? implies? dec_lt
later? P d n = map? (λ f i h. f i (omega arith) h) (λ f i h q. f i q) (all_below? (λ i. suc i < n → P i) (λ i. implies? (dec_lt (suc i) n) (d i)) n)

unfoldable pub tree? : (s : List ℕ) → Dec (IsTree s)
unfolding map? both? all_below? pair? later? dec_le ℕ_discrete
tree? s = map?
    (λ h. record { has_root = h.0; pairs = h.1.0; root_depth = h.1.1.0; later_from_1 = h.1.1.1.0; later_to_next = h.1.1.1.1 })
    (λ t. (t.has_root, (t.pairs, (t.root_depth, (t.later_from_1, t.later_to_next)))))
    (both? (dec_le 1 (length s)) (both? (all_below? (λ i. IsPair (get_or s i 0)) (λ i. pair? (get_or s i 0)) (length s)) (both? (ℕ_discrete (depthAt s 0) 0)
    (both? (later? (λ i. 1 ≤ depthAt s (suc i)) (λ i. dec_le 1 (depthAt s (suc i))) (length s)) (later? (λ i. depthAt s (suc i) ≤ suc (depthAt s i)) (λ i. dec_le (depthAt s (suc i)) (suc (depthAt s i))) (length s))))))

unfoldable pub parent? : (s : List ℕ) (i j : ℕ) → Dec (IsParent s i j)
unfolding map? both? all_below? implies? dec_lt ℕ_discrete
parent? s i j = map?
    (λ h. record { before = h.0; inside = h.1.0; one_deeper = h.1.1.0; between = λ k p q. h.1.1.1 k q p })
    (λ p. (p.before, (p.inside, (p.one_deeper, (λ k q r. p.between k r q)))))
    (both? (dec_lt i j) (both? (dec_lt j (length s)) (both? (ℕ_discrete (depthAt s j) (suc (depthAt s i)))
    (all_below? (λ k. i < k → depthAt s i < depthAt s k) (λ k. implies? (dec_lt i k) (dec_lt (depthAt s i) (depthAt s k))) j))))
