-- LAWS. Occurrence among trees of any depth: sizes; the same tree; depths.
use mathlib.Core.Path.{◌≡◌}
use mathlib.Core.List.{List}
use Prim.Native.Nat.{ℕ, zero, suc, ◌+◌, ◌≤◌, ◌<◌}
use native.Mathlib.Omega.{arith}
use lib.ListN.{length}
use Rattle.terms.specs.Tree.{depthAt, IsTree, IsTreeAnyDepth}
use Rattle.terms.specs.Matching.{placeAt, SameTree}
use Rattle.terms.specs.Placing.{Occurs}
use Rattle.terms.proofs.PreorderLinks.{Embeds}
use Rattle.terms.proofs.EmbedsLaws.{has_parent}
use Rattle.terms.proofs.TreeLaws.{tree_to_15}
use Rattle.terms.proofs.MatchingLaws.{occ_placing_any_depth, placing_occ, no_fewer, same_from_any_depth}

pub map_occurs : {p t : List ℕ} {φ : ℕ → ℕ} → IsTreeAnyDepth p → Embeds p t φ → Occurs p t
map_occurs tp o = record { tuple = _; placing = occ_placing_any_depth tp o }

pub occurs_no_larger : {p q : List ℕ} → Occurs p q → length p ≤ length q
occurs_no_larger o = no_fewer (placing_occ o.placing)

-- What occurs in a tree of its size is the same tree.
pub occurs_same_size : {s t : List ℕ} → IsTreeAnyDepth s → length s ≡ length t → Occurs s t → SameTree s t
occurs_same_size ts e o = same_from_any_depth ts (record { size = e; map = placeAt o.tuple; occurs = placing_occ o.placing })

-- A placing keeps depths, counted from the root's place,
pub depth_from_root : (n : ℕ) {s t : List ℕ} {φ : ℕ → ℕ} → IsTreeAnyDepth s → Embeds s t φ → (i : ℕ) → i ≤ n → i < length s → depthAt t (φ i) ≡ depthAt t (φ 0) + depthAt s i
depth_from_root zero v o zero b h = omega (arith, v.root_depth)
depth_from_root (suc n) v o zero b h = omega (arith, v.root_depth)
depth_from_root zero v o (suc i) b h = absurd (omega arith)
depth_from_root (suc n) {s} {t} {φ} v o (suc i) b h =
    let z = has_parent s v i h in
    let a : z.0 < suc i = z.1.before in
    let k = o.parents z.0 (suc i) (omega arith) h z.1 in
    omega (arith, k.one_deeper, z.1.one_deeper, depth_from_root n v o z.0 (omega arith) (omega arith))

-- so what occurs in a tree of depth 0 to 15 is one.
pub occurring_is_tree : {s t : List ℕ} → IsTreeAnyDepth s → IsTree t → Occurs s t → IsTree s
occurring_is_tree {s} {t} v tt o = tree_to_15 v (λ i h. omega (arith, depth_from_root i v m i (omega arith) h, (tt.pairs (placeAt o.tuple i) (m.bound i h)).depth_to_15))
  where
    m : Embeds s t (placeAt o.tuple)
    m = placing_occ o.placing
