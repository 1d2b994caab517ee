-- LAWS. "Equivalently, each child's subtree is no lighter than its right neighbour's": the test of a form by runs; and it computes.
use mathlib.Core.Path.{◌≡◌}
use mathlib.Core.List.{List}
use Prim.Native.Nat.{ℕ, suc, ◌<◌}
use native.Mathlib.Omega.{arith}
use native.Mathlib.Decide.{dec_lt, dec_le, ℕ_discrete}
use lib.ListN.{length, take, drop, length-drop}
use Rattle.terms.specs.Order.{Lighter}
use Rattle.terms.specs.Form.{NoLighterThanNext, LeftHeavy, InForm, IsForm}
use Rattle.terms.specs.Placing.{Occurs}
use Rattle.terms.specs.Tree.{depthAt, IsTree, SubtreeEnd}
use Rattle.terms.specs.Claims.{LeftHeavyExactly}
use Rattle.terms.proofs.OrderLaws.{lighter?}
use Rattle.terms.proofs.HeavySubtrees.{canon_heavy, heavy_canon}
use Rattle.terms.proofs.Decide.{both?, map?, not?, implies?, all_below?}
use Rattle.terms.proofs.TreeLaws.{tree_any_depth, tree?}
use Rattle.terms.proofs.MatchingLaws.{same_length, same_from, same_occurs, placing_occ}
use Rattle.terms.proofs.OccursDecided.{occurs?}
use Rattle.terms.proofs.FormLaws.{canon_in_form, in_form_canon, form_in_form, form_of_same}

unfoldable pub run? : (u : List ℕ) (n : ℕ) → Dec (SubtreeEnd u 0 n)
unfolding map? both? implies? all_below? dec_lt dec_le
run? u n = map?
    (λ h. record { after = h.0; within = h.1.0; deeper = λ m a b. h.1.1.0 m b a; stop = h.1.1.1 })
    (λ r. (r.after, (r.within, ((λ m b a. r.deeper m a b), r.stop))))
    (both? (dec_lt 0 n) (both? (dec_le n (length u)) (both? (all_below? (λ m. 0 < m → depthAt u 0 < depthAt u m) (λ m. implies? (dec_lt 0 m) (dec_lt (depthAt u 0) (depthAt u m))) n) (implies? (dec_lt n (length u)) (dec_le (depthAt u n) (depthAt u 0))))))

unfoldable pub heavy? : (u : List ℕ) → Dec (NoLighterThanNext u)
unfolding NoLighterThanNext map? not? implies? all_below? run? lighter? dec_lt ℕ_discrete
heavy? u = map? to from
    (all_below? (λ n. (m : ℕ) → m < suc (length u) → SubtreeEnd u 0 n → n < length u → depthAt u n ≡ depthAt u 0 → SubtreeEnd (drop n u) 0 m → ¬ Lighter (take n u) (take m (drop n u)))
    (λ n. all_below? (λ m. SubtreeEnd u 0 n → n < length u → depthAt u n ≡ depthAt u 0 → SubtreeEnd (drop n u) 0 m → ¬ Lighter (take n u) (take m (drop n u)))
    (λ m. implies? (run? u n) (implies? (dec_lt n (length u)) (implies? (ℕ_discrete (depthAt u n) (depthAt u 0)) (implies? (run? (drop n u) m) (not? (lighter? (take n u) (take m (drop n u)))))))) (suc (length u))) (suc (length u)))
  where
    to : ((n : ℕ) → n < suc (length u) → (m : ℕ) → m < suc (length u) → SubtreeEnd u 0 n → n < length u → depthAt u n ≡ depthAt u 0 → SubtreeEnd (drop n u) 0 m → ¬ Lighter (take n u) (take m (drop n u))) → NoLighterThanNext u
    to f n m r h e q l = f n (omega arith) m (omega (arith, q.within, length-drop n u)) r h e q l

    from : NoLighterThanNext u → (n : ℕ) → n < suc (length u) → (m : ℕ) → m < suc (length u) → SubtreeEnd u 0 n → n < length u → depthAt u n ≡ depthAt u 0 → SubtreeEnd (drop n u) 0 m → ¬ Lighter (take n u) (take m (drop n u))
    from f n _ m _ r h e q l = f n m r h e q l

-- THE CLAIM: a tree is in its form exactly if it is left-heavy, "each child's subtree is no lighter than its right neighbour's".
pub left_heavy_exactly : LeftHeavyExactly
unfolding LeftHeavy
left_heavy_exactly s t = ((λ f. canon_heavy s (tree_any_depth t) (in_form_canon f)), (λ h. canon_in_form t (heavy_canon s (tree_any_depth t) h)))

unfoldable pub in_form? : (s : List ℕ) → Dec (InForm s)
unfolding map? both? tree? all_below? heavy? LeftHeavy
in_form? s = map? (λ h. (left_heavy_exactly s h.0).1 h.1) (λ f. (f.is_tree, (left_heavy_exactly s f.is_tree).0 f)) (both? (tree? s) (all_below? (λ i. NoLighterThanNext (drop i s)) (λ i. heavy? (drop i s)) (length s)))

-- the same tree: as many nodes, and one occurs in the other
unfoldable pub form? : (s f : List ℕ) → IsTree s → Dec (IsForm s f)
unfolding map? both? in_form? occurs? ℕ_discrete
form? s f t = map? to from (both? (ℕ_discrete (length s) (length f)) (both? (occurs? s f) (in_form? f)))
  where
    to : (length s ≡ length f) × (Occurs s f × InForm f) → IsForm s f
    to h = form_of_same t h.1.1.is_tree (same_from t (record { size = h.0; map = _; occurs = placing_occ h.1.0.placing })) h.1.1

    from : IsForm s f → (length s ≡ length f) × (Occurs s f × InForm f)
    from a = (same_length a.same, (same_occurs a.same, form_in_form t a))
