-- LAWS. Above every tree that is counted stands a closed one with its count, and a maximal one.
use mathlib.Core.Path.{◌≡◌}
use mathlib.Core.List.{List}
use Prim.Native.Nat.{ℕ, zero, suc, ◌+◌, ◌≤◌, ◌<◌}
use native.Mathlib.Omega.{arith}
use lib.ListN.{length}
use Rattle.terms.specs.Tree.{IsTreeAnyDepth}
use Rattle.terms.specs.Placing.{Occurs}
use Rattle.terms.proofs.MatchingLaws.{same_occurs, same_reflexive_any_depth, occurs_trans_any_depth}
use Rattle.occurrence.specs.Support.{NeverGrows}
use Rattle.supertrees.specs.Supertree.{Closed, Maximal, LargerReaches}
use Rattle.supertrees.proofs.ProfileLaws.{maximal_by_one_node, closed_at_own_count, larger_reaches?}

module _ (count : List ℕ → ℕ) (never : NeverGrows count) (most : ℕ) (large : (tree : List ℕ) → most < length tree → count tree ≡ 0) where
  -- the last of those that reach a number
  record Last (need : ℕ) (p : List ℕ) : Type 0 where
    tree : List ℕ
    is_tree : IsTreeAnyDepth tree
    occurs : Occurs p tree
    enough : need ≤ count tree
    none_larger : ¬ LargerReaches count need tree

  climb : (n need : ℕ) (p : List ℕ) → IsTreeAnyDepth p → 1 ≤ need → need ≤ count p → most < length p + n → Last need p
  climb zero need p tp f h b = absurd (omega (arith, large p (omega arith)))
  climb (suc n) need p tp f h b = go (larger_reaches? count never need p tp) (λ z. climb n need z.tree z.larger.is_tree f z.enough (omega (arith, z.larger.one_more)))
    where
      go : Dec (LargerReaches count need p) → ((z : LargerReaches count need p) → Last need z.tree) → Last need p
      go (yes z) r = let l = r z in record { tree = l.tree; is_tree = l.is_tree; occurs = occurs_trans_any_depth tp z.larger.occurs l.occurs; enough = l.enough; none_larger = l.none_larger }
      go (no k) r = record { tree = p; is_tree = tp; occurs = same_occurs (same_reflexive_any_depth tp); enough = h; none_larger = k }

  pub maximal_above : (threshold : ℕ) (p : List ℕ) → IsTreeAnyDepth p → 1 ≤ threshold → threshold ≤ count p → (tree : List ℕ) × IsTreeAnyDepth tree × Occurs p tree × (threshold ≤ count tree) × Maximal count threshold tree
  maximal_above threshold p tp f h = let l = climb (suc most) threshold p tp f h (omega arith) in (l.tree, l.is_tree, l.occurs, l.enough, (maximal_by_one_node count never threshold l.tree l.is_tree).1 l.none_larger)

  pub closed_above : (p : List ℕ) → IsTreeAnyDepth p → 1 ≤ count p → (tree : List ℕ) × IsTreeAnyDepth tree × Occurs p tree × (count tree ≡ count p) × Closed count tree
  closed_above p tp f =
      let z = maximal_above (count p) p tp f (omega arith) in
      let e : count z.0 ≡ count p = omega (arith, z.3, never p z.0 tp z.1 z.2) in
      (z.0, z.1, z.2, e, (closed_at_own_count count never z.0 z.1).1 (rw e z.4))
