-- LAWS for `in_form`.
use mathlib.Core.Path.{◌≡◌, sym}
use mathlib.Core.Bool.{true, false}
use mathlib.Core.List.{List}
use Prim.Native.Nat.{ℕ, ◌-◌, ◌≤◌, ◌<◌}
use native.Mathlib.Omega.{arith}
use native.Mathlib.Decide.{dec_lt}
use lib.ListN.{length}
use lib.Seq.{slice}
use Rattle.terms.specs.Tree.{depthAt, IsTree, SubtreeEnd}
use Rattle.terms.specs.Order.{Lighter}
use Rattle.terms.specs.Form.{LeftHeavy}
use Rattle.terms.specs.Tells.{decided}
use Rattle.terms.proofs.DecidedLaws.{says_yes, says_no, said_yes, said_no}
use Rattle.terms.proofs.OrderLaws.{lighter?}
use Rattle.terms.proofs.TreeLaws.{tree?}
use Rattle.terms.proofs.LeftHeavyLaws.{in_form?, left_heavy_exactly}
use Rattle.terms.proofs.HeavySubtrees.{end_unique}
use Rattle.tree.specs.Subtrees.{HasLeft}
use Rattle.tree.proofs.SubtreeLaws.{HeavyAt, heavy_at, at_heavy}

-- the subtree at j is no heavier than its left neighbour's, if it has one
unfoldable pub NoHeavierThanLeft : List ℕ → ℕ → Type 0
NoHeavierThanLeft s j = (i f : ℕ) → SubtreeEnd s i j → depthAt s i ≡ depthAt s j → SubtreeEnd s j f → ¬ Lighter (slice i j s) (slice j f s)

pub first_child : (s : List ℕ) (j : ℕ) → depthAt s (j - 1) < depthAt s j → NoHeavierThanLeft s j
unfolding NoHeavierThanLeft
first_child s j h i f p d q l = go (dec_lt i (j - 1))
  where
    go : Dec (i < j - 1) → ⊥
    go (yes z) = omega (arith, p.deeper (j - 1) z (omega arith))
    go (no z) = let e : j - 1 ≡ i = omega (arith, p.after) in let w : depthAt s i < depthAt s j = rw e at h in omega arith

left_unique : {s : List ℕ} {i k j : ℕ} → SubtreeEnd s i j → depthAt s i ≡ depthAt s j → SubtreeEnd s k j → depthAt s k ≡ depthAt s j → i ≡ k
left_unique {s} {i} {k} {j} p d q e = go (dec_lt i k) (dec_lt k i)
  where
    go : Dec (i < k) → Dec (k < i) → i ≡ k
    go (yes z) _ = absurd (omega (arith, p.deeper k z q.after))
    go (no z) (yes w) = absurd (omega (arith, q.deeper i w p.after))
    go (no z) (no w) = omega arith

module _ (s : List ℕ) (i j f : ℕ) (p : SubtreeEnd s i j × (depthAt s i ≡ depthAt s j)) (q : SubtreeEnd s j f) where
  pub no_heavier : false ≡ decided (lighter? (slice i j s) (slice j f s)) → NoHeavierThanLeft s j
  unfolding NoHeavierThanLeft
  no_heavier h k g r d o l =
      let z : k ≡ i = left_unique r d p.0 p.1 in
      let w : g ≡ f = end_unique o q in
      said_no (lighter? (slice i j s) (slice j f s)) h (rw (z, w) at l)

  pub heavier_no : IsTree s → j < length s → true ≡ decided (lighter? (slice i j s) (slice j f s)) → false ≡ decided (in_form? s)
  unfolding LeftHeavy HeavyAt
  heavier_no t b h = says_no (in_form? s) (λ g. heavy_at s i ((left_heavy_exactly s t).0 g i (omega (arith, p.0.after))) j f p.0 b (sym p.1) q (said_yes (lighter? (slice i j s) (slice j f s)) h))

-- no tree
pub no_tree : (s : List ℕ) → false ≡ decided (tree? s) → false ≡ decided (in_form? s)
no_tree s h = says_no (in_form? s) (λ f. said_no (tree? s) h f.is_tree)

-- behind j, no subtree is heavier than its left neighbour's
pub record CheckedBehind (s : List ℕ) (j : ℕ) : Type 0 where
  pub is_tree : IsTree s
  pub inside : j < length s
  pub checked : (k : ℕ) → j < k → k < length s → NoHeavierThanLeft s k

pub begun : (s : List ℕ) → IsTree s → CheckedBehind s (length s - 1)
begun s t = record { is_tree = t; inside = omega (arith, t.has_root); checked = λ k h q. absurd (omega arith) }

pub has_left : {s : List ℕ} {j : ℕ} → CheckedBehind s j → 0 < j → depthAt s j ≤ depthAt s (j - 1) → HasLeft s j
has_left r h d = record { later = h; inside = r.inside; no_deeper = d }

pub one_more : (s : List ℕ) (j : ℕ) → CheckedBehind s j → 0 < j → NoHeavierThanLeft s j → CheckedBehind s (j - 1)
one_more s j r h n = record { is_tree = r.is_tree; inside = omega (arith, r.inside); checked = λ k p q. go k p q (dec_lt j k) }
  where
    go : (k : ℕ) → j - 1 < k → k < length s → Dec (j < k) → NoHeavierThanLeft s k
    go k p q (yes z) = r.checked k z q
    go k p q (no z) = let e : k ≡ j = omega arith in rw e n

pub all_checked : (s : List ℕ) (j : ℕ) → CheckedBehind s j → j ≤ 0 → true ≡ decided (in_form? s)
unfolding LeftHeavy HeavyAt NoHeavierThanLeft
all_checked s j r h = says_yes (in_form? s) ((left_heavy_exactly s r.is_tree).1 (λ i q. at_heavy s i q (λ e f p b d o. r.checked e (omega (arith, p.after)) b i f p (sym d) o)))
