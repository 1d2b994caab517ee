-- LAWS. Turning a pattern, one exchange after another.
use mathlib.Core.Path.{◌≡◌, refl, sym, ap, ◌∙◌}
use mathlib.Core.List.{List}
use Prim.Native.Nat.{ℕ, zero, suc, ◌+◌, ◌-◌, ◌/◌, ◌≤◌, ◌<◌, min}
use native.Mathlib.Omega.{arith}
use native.Mathlib.Decide.{dec_lt}
use native.Mathlib.Numerals.{add-one}
use lib.ListN.{length, get_or, take}
use lib.Seq.{ext_get_or, get_or-take, length-take-le}
use Rattle.terms.specs.Tree.{depthAt, IsTree, SubtreeEnd}
use Rattle.tree.specs.Subtrees.{HasLeft}
use Rattle.exchange.specs.Exchange.{Exchanged}
use Rattle.merging.proofs.ExchangeLaws.{TwoStretches}
use Rattle.turned.specs.Turned.{TurnedTo, IsLeaf}
use Rattle.turned.proofs.TurnedLaws.{turned_itself, turned_exchanged}
use Rattle.turning.specs.Turning.{LeafTurned}

-- the leaf stands at a place, nothing below it, and the pairs before `unmoved` have not moved
pub record TurnedSoFar (p : List ℕ) (leaf : ℕ) (s : List ℕ) (at unmoved : ℕ) : Type 0 where
  pub is_tree : IsTree p
  pub turned : TurnedTo p leaf s at
  pub is_leaf : IsLeaf s at
  pub as_long : length s ≡ length p
  pub to_leaf : unmoved ≤ leaf
  pub to_place : unmoved ≤ at
  pub root_unmoved : 1 < length p → 1 ≤ unmoved
  pub as_before : (k : ℕ) → k < unmoved → get_or s k 0 ≡ get_or p k 0

pub turn_start : {p : List ℕ} {leaf : ℕ} → IsTree p → IsLeaf p leaf → TurnedSoFar p leaf p leaf leaf
turn_start {p} {leaf} t l = record { is_tree = t; turned = turned_itself t l.inside; is_leaf = l; as_long = refl; to_leaf = omega arith; to_place = omega arith; root_unmoved = λ h. no_root leaf h l.none_below; as_before = λ k _. refl }
  where
    no_root : (i : ℕ) → 1 < length p → (suc i < length p → depthAt p (suc i) ≤ depthAt p i) → 1 ≤ i
    no_root zero h f = absurd (omega (arith, f h, t.root_depth, t.later_from_1 0 h))
    no_root (suc i) h f = omega arith

module _ {p s : List ℕ} {leaf at unmoved : ℕ} (w : TurnedSoFar p leaf s at unmoved) where
  tree : IsTree s
  tree = w.turned.is_tree

  module _ (h : at + 1 < length s) where
    -- the node behind the leaf is no first child
    pub has_left : HasLeft s (at + 1)
    has_left = record { later = omega arith; inside = h; no_deeper = no_deeper }
      where
        no_deeper : depthAt s (at + 1) ≤ depthAt s (at + 1 - 1)
        no_deeper = let e : at + 1 - 1 ≡ at = omega arith in rw (e, add-one at) (w.is_leaf.none_below (omega arith))

    -- it is exchanged with its left neighbour
    module _ {t : List ℕ} {left end : ℕ} (l : SubtreeEnd s left (at + 1) × (depthAt s left ≡ depthAt s (at + 1))) (e : SubtreeEnd s (at + 1) end) (x : Exchanged s t left (at + 1) end) where
      deep : (k : ℕ) → left ≤ k → k < end → depthAt s (at + 1) ≤ depthAt s k
      deep k a b = go (dec_lt left k) (dec_lt k (at + 1)) (dec_lt (at + 1) k)
        where
          go : Dec (left < k) → Dec (k < at + 1) → Dec (at + 1 < k) → depthAt s (at + 1) ≤ depthAt s k
          go (no q) _ _ = let z : left ≡ k = omega arith in omega (arith, l.1, ap (depthAt s) z)
          go (yes q) (yes r) _ = omega (arith, l.1, l.0.deeper k q r)
          go (yes q) (no r) (yes v) = omega (arith, e.deeper k v b)
          go (yes q) (no r) (no v) = let z : at + 1 ≡ k = omega arith in omega (arith, ap (depthAt s) z)

      two : TwoStretches s left (at + 1) end (depthAt s (at + 1))
      two = record { first = l.0.after; second = e.after; within = e.within; first_head = l.1; second_head = refl; deep = deep; stop = e.stop }

      -- the left neighbour is not the root
      after_root : 1 ≤ left
      after_root = go left refl
        where
          go : (i : ℕ) → i ≡ left → 1 ≤ left
          go zero z = absurd (omega (arith, tree.root_depth, ap (depthAt s) z, l.1, ap (depthAt s) (add-one at), tree.later_from_1 at (omega arith)))
          go (suc i) z = omega arith

      -- where the leaf stands now
      now : TurnedTo p leaf t (end - 1)
      now = let z : at + (end - (at + 1)) ≡ end - 1 = omega (arith, e.after) in rw z at (turned_exchanged w.is_tree w.turned two x (omega (arith, l.0.after)) (omega arith))

      still_leaf : IsLeaf t (end - 1)
      still_leaf = record { inside = omega (arith, e.after, e.within, x.same_length); none_below = λ q. below (omega (arith, e.after, x.same_length)) }
        where
          here : suc (end - 1) ≡ end
          here = omega (arith, e.after)

          below : end < length s → depthAt t (suc (end - 1)) ≤ depthAt t (end - 1)
          below q = omega (arith, ap (depthAt t) here, ap (λ (y : ℕ). y / 1000) (x.behind end (omega arith)), ap (λ (y : ℕ). y / 1000) (x.to_back at (end - 1) (omega (arith, l.0.after)) (omega arith) (omega (arith, e.after))), e.stop q, deep at (omega (arith, l.0.after)) (omega (arith, e.after)))

      moved_to : {unmoved' : ℕ} → unmoved' ≤ unmoved → unmoved' ≤ left → 1 ≤ unmoved' → TurnedSoFar p leaf t (end - 1) unmoved'
      moved_to a b c = record {
        is_tree = w.is_tree;
        turned = now;
        is_leaf = still_leaf;
        as_long = x.same_length ∙ w.as_long;
        to_leaf = omega (arith, w.to_leaf);
        to_place = omega (arith, w.to_place, e.after);
        root_unmoved = λ _. c;
        as_before = λ k q. x.before k (omega arith) ∙ w.as_before k (omega arith);
      }

      -- as far to the left as the exchange, or all before, began
      pub turn_on : TurnedSoFar p leaf t (end - 1) (min unmoved left)
      turn_on = let z = w.root_unmoved (omega (arith, w.as_long)) in moved_to (omega arith) (omega arith) (omega (arith, after_root, z))

  pub turn_end : length s ≤ at + 1 → LeafTurned p leaf s unmoved
  turn_end h = record { to_end = to_end; as_long = w.as_long; to_leaf = w.to_leaf; root_unmoved = w.root_unmoved; beginning = ext_get_or 0 (take unmoved s) (take unmoved p) (omega (arith, of_s, of_p)) (λ i q. same i (omega (arith, of_s))) }
    where
      to_end : TurnedTo p leaf s (length s - 1)
      to_end = let z : at ≡ length s - 1 = omega (arith, w.is_leaf.inside) in rw z at w.turned

      of_s : length (take unmoved s) ≡ unmoved
      of_s = length-take-le unmoved s (omega (arith, w.to_place, w.is_leaf.inside))

      of_p : length (take unmoved p) ≡ unmoved
      of_p = length-take-le unmoved p (omega (arith, w.to_place, w.is_leaf.inside, w.as_long))

      same : (i : ℕ) → i < unmoved → get_or (take unmoved s) i 0 ≡ get_or (take unmoved p) i 0
      same i q = get_or-take unmoved s i 0 q ∙ w.as_before i q ∙ sym (get_or-take unmoved p i 0 q)
