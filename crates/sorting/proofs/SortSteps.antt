-- LAWS for `order_children` and `sort`: their loops, and that a tree in order from the root on is the form.
use mathlib.Core.Path.{◌≡◌, ap}
use mathlib.Core.List.{List}
use Prim.Native.Nat.{ℕ, zero, suc, ◌+◌, ◌-◌, ◌*◌, ◌≤◌, ◌<◌}
use native.Mathlib.Omega.{arith}
use native.Mathlib.Decide.{dec_lt}
use lib.ListN.{length}
use lib.Seq.{slice}
use Rattle.terms.specs.Tree.{depthAt, IsTree, SubtreeEnd}
use Rattle.terms.specs.Order.{Lighter}
use Rattle.terms.specs.Form.{IsForm, LeftHeavy}
use Rattle.terms.proofs.FormLaws.{form_of_same}
use Rattle.terms.proofs.LeftHeavyLaws.{left_heavy_exactly}
use Rattle.tree.proofs.SubtreeLaws.{HeavyAt, at_heavy}
use Rattle.merging.specs.Merging.{Rearranged, Siblings, OrderedWithin}
use Rattle.merging.proofs.SiblingLaws.{unmoved, rearranged_twice, same_size}
use Rattle.sorting.specs.Sorting.{HasChild, ChildrenInOrder, RunsMerged}

pub sorted : {s t : List ℕ} → IsTree s → Rearranged s t → OrderedWithin t 0 (length t) → IsForm s t
unfolding OrderedWithin LeftHeavy HeavyAt
sorted {s} {t} tree p o = form_of_same tree p.is_tree p.same ((left_heavy_exactly t p.is_tree).1 (λ i h. at_heavy t i h (λ e f y n d w. o i e f (omega arith) n y d w)))

-- order_children: t is s after rounds of merging the children of the node at i; the limit of the next one is 0 if there is none
pub record Rounds (s t : List ℕ) (i limit : ℕ) : Type 0 where
  pub tree : IsTree s
  pub rearranged : Rearranged s t
  pub parent : HasChild t i
  pub later : ChildrenInOrder t (i + 1)
  pub done : limit ≡ 0 → ChildrenInOrder t i
  pub within : limit ≤ 2 * length s + 16

pub no_round_yet : {s : List ℕ} {i : ℕ} → IsTree s → HasChild s i → ChildrenInOrder s (i + 1) → Rounds s s i 16
no_round_yet t p c = record { tree = t; rearranged = unmoved t; parent = p; later = c; done = λ h. absurd (omega arith); within = omega arith }

module _ {s t u : List ℕ} {i limit r : ℕ} (a : Rounds s t i limit) (b : RunsMerged t u i limit r) where
  pub fits : r ≤ length s
  fits = go (dec_lt 0 r)
    where
      go : Dec (0 < r) → r ≤ length s
      go (yes h) = omega (arith, (b.more h).1, same_size a.rearranged)
      go (no h) = omega arith

  pub one_round : Rounds s u i (2 * r)
  one_round = record {
    tree = a.tree;
    rearranged = rearranged_twice a.tree a.rearranged b.rearranged;
    parent = b.parent;
    later = b.later;
    done = λ h. b.done (omega arith);
    within = omega (arith, fits);
  }

-- the rounds that are left at most: none where the limit is 0, and the fewer the larger it is
pub rounds_left : (n limit : ℕ) → ℕ
rounds_left n zero = 0
rounds_left n (suc k) = suc n - k

fewer_left : (n k l : ℕ) → 0 < k → k ≤ n → l ≤ n → (0 < l → k < l) → rounds_left n l < rounds_left n k
unfolding rounds_left
fewer_left n zero l h p q w = absurd (omega arith)
fewer_left n (suc k) zero h p q w = omega arith
fewer_left n (suc k) (suc l) h p q w = omega (arith, w (omega arith))

pub round_less : {s t u : List ℕ} {i limit r : ℕ} → Rounds s t i limit → 0 < limit → RunsMerged t u i limit r → rounds_left (2 * length s + 16) (2 * r) < rounds_left (2 * length s + 16) limit
round_less {s} {t} {u} {i} {limit} {r} a h b = fewer_left (2 * length s + 16) limit (2 * r) h a.within (omega (arith, fits a b)) (λ z. omega (arith, (b.more (omega arith)).0))

-- sort
pub none_yet : (s : List ℕ) → ChildrenInOrder s (length s)
unfolding ChildrenInOrder
none_yet s j k e f h l d y = absurd (omega (arith, y.after, y.within))

pub next_nodes : (s : List ℕ) (i : ℕ) → 0 < i → ChildrenInOrder s i → ChildrenInOrder s (i - 1 + 1)
next_nodes s i h c = let e : i - 1 + 1 ≡ i = omega arith in rw e c

pub no_child : (s : List ℕ) (i : ℕ) → ChildrenInOrder s (i + 1) → ¬ HasChild s i → ChildrenInOrder s i
unfolding ChildrenInOrder
no_child s i c n j k e f l q d y el de z = go (dec_lt i j)
  where
    inside : i + 1 < length s
    inside = omega (arith, y.after, y.within)

    shallow : Dec (depthAt s i < depthAt s (i + 1)) → depthAt s (i + 1) ≤ depthAt s i
    shallow (yes h) = absurd (n (record { inside = inside; deeper = h }))
    shallow (no h) = omega arith

    go : Dec (i < j) → ¬ Lighter (slice k e s) (slice e f s)
    go (yes m) = c j k e f (omega arith) q d y el de z
    go (no m) =
        let w : j ≡ i = omega arith in
        let di : depthAt s i < depthAt s k = rw w at d in
        let ds : depthAt s (i + 1) ≤ depthAt s i = shallow (dec_lt (depthAt s i) (depthAt s (i + 1))) in
        c (i + 1) k e f (omega arith) (later di ds (dec_lt (i + 1) k)) (omega arith) y el de z
      where
        later : depthAt s i < depthAt s k → depthAt s (i + 1) ≤ depthAt s i → Dec (i + 1 < k) → i + 1 < k
        later v u (yes a) = a
        later v u (no a) = let b : k ≡ i + 1 = omega arith in let x : depthAt s k ≡ depthAt s (i + 1) = ap (λ (g : ℕ). depthAt s g) b in absurd (omega arith)

module _ (s : List ℕ) (tree : IsTree s) where
  above : (k : ℕ) → suc k < length s → depthAt s 0 < depthAt s (suc k)
  above k q = omega (arith, tree.root_depth, tree.later_from_1 k q)

  -- the root has no right neighbour
  only_root : (e : ℕ) → SubtreeEnd s 0 e → depthAt s e ≡ depthAt s 0 → e < length s → ⊥
  only_root zero y d q = omega (arith, y.after)
  only_root (suc e) y d q = omega (arith, above e q)

  pub all_in_order : (i : ℕ) → i ≤ 0 → ChildrenInOrder s i → OrderedWithin s 0 (length s)
  unfolding ChildrenInOrder OrderedWithin
  all_in_order i root c k e f h l y d z = go k y d
    where
      go : (k : ℕ) → SubtreeEnd s k e → depthAt s e ≡ depthAt s k → ¬ Lighter (slice k e s) (slice e f s)
      go (suc k) y d = c 0 (suc k) e f root (omega arith) (above k (omega (arith, y.after))) y l d z
      go zero y d = λ _. only_root e y d l

  -- insertion::sort
  pub but_the_root : (i : ℕ) → i ≤ 1 → OrderedWithin s i (length s) → OrderedWithin s 0 (length s)
  unfolding OrderedWithin
  but_the_root i root o k e f h l y d z = go k y d
    where
      go : (k : ℕ) → SubtreeEnd s k e → depthAt s e ≡ depthAt s k → ¬ Lighter (slice k e s) (slice e f s)
      go (suc k) y d = o (suc k) e f (omega arith) l y d z
      go zero y d = λ _. only_root e y d l

pub last_in_order : (s : List ℕ) → OrderedWithin s (length s - 1) (length s)
unfolding OrderedWithin
last_in_order s k e f h l y = absurd (omega (arith, y.after))

pub last_sibling : {s : List ℕ} → IsTree s → Siblings s (length s - 1) (length s)
last_sibling {s} t = record { some = omega (arith, t.has_root); within = omega arith; deep = λ k h q. let e : k ≡ length s - 1 = omega arith in rw e (omega arith); stop = λ h. absurd (omega arith) }

module _ (s : List ℕ) (i c : ℕ) (h : 1 < i) where
  pub asks_sink : IsTree s → i < length s → OrderedWithin s i (length s) → Siblings s i c → IsTree s × (i - 1 + 1 < length s) × OrderedWithin s (i - 1 + 1) (length s) × Siblings s (i - 1 + 1) c
  asks_sink t l o v = let e : i - 1 + 1 ≡ i = omega arith in (t, omega arith, rw e o, rw e v)
