-- LAWS. What is asked of the code's numbers: indices inside, sums and products that fit, measures that fall. Over a few plain facts, since
-- `omega` at the place itself reads all that is known there, which takes most of a second.
use mathlib.Core.Path.{◌≡◌}
use mathlib.Core.List.{List}
use Prim.Native.Nat.{ℕ, suc, ◌+◌, ◌-◌, ◌*◌, ◌/◌, ◌%◌, ◌≤◌, ◌<◌}
use native.Mathlib.Omega.{arith}
use lib.ListN.{length, get_or}
use mir.Syntax.{w16, w64}
use mir.Val.{Fits}
use Rattle.terms.specs.Tree.{IsParent}
use Rattle.matching.specs.FitsSteps.{Measured, NodeAndImage}

doubled : (n : ℕ) → n < 256 → Fits w64 (n * 2)
doubled n h = omega arith

one_more : (n : ℕ) → n < 256 → Fits w64 (n + 1)
one_more n h = omega arith

pub inside_more : {n e : ℕ} → n ≤ 256 → e < n → Fits w64 (e + 1)
inside_more {n} {e} h k = one_more e (omega arith)

-- a pair below a node
pub wanted_is : (y x : ℕ) → (y / 1000 + 1) * 1000 + x % 1000 ≡ 1000 * suc (y / 1000) + x % 1000
wanted_is y x = omega arith

module _ {p : List ℕ} {i : ℕ} {q : List ℕ} {d : ℕ} (a : NodeAndImage p i q d) where
  pub node_doubled : Fits w64 (i * 2)
  node_doubled = doubled i (omega (arith, a.node, a.trees.pattern_nodes))

  pub below_children : Fits w16 (get_or p i 0 / 1000 + 2) × Fits w16 ((get_or p i 0 / 1000 + 2) * 1000)
  below_children = let h = (a.trees.pattern_is_tree.pairs i a.node).depth_to_15 in (omega arith, omega arith)

  pub child_doubled : {x : ℕ} → x < length p → Fits w64 (x * 2)
  child_doubled {x} h = doubled x (omega (arith, a.trees.pattern_nodes))

  pub some_size : {sizes : List ℕ} → Measured q sizes → 0 < length sizes
  some_size m = omega (arith, a.image, m.all)

  module _ {x : ℕ} (c : IsParent p i x) where
    pub child_below : x < 16
    child_below = omega (arith, c.inside, a.trees.pattern_nodes)

    pub child_eightfold : Fits w64 (x * 8)
    child_eightfold = let h = child_below in omega arith

-- the measures: of `fits` 18 for each pattern node from its own on, of `augment` as much for those after `node`, and the unvisited
pub into_children : {n i t : ℕ} → (n - i) * 18 ≡ t → i < n → (n - (i + 1)) * 18 + 1 + 16 < t
into_children e h = omega arith

pub into_child : (n u : ℕ) {i x t : ℕ} → (n - (i + 1)) * 18 + 1 + u ≡ t → i < x → (n - x) * 18 < t
into_child n u e h = omega arith

pub along_path : (n i : ℕ) {u u' t : ℕ} → (n - (i + 1)) * 18 + 1 + u ≡ t → u' < u → (n - (i + 1)) * 18 + 1 + u' < t
along_path n i e h = omega arith
