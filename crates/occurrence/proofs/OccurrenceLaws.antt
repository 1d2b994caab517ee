-- LAWS. Occurrence of beginnings, of the same unordered tree, of a tree in itself and in one of its size.
use mathlib.Core.Path.{◌≡◌, ◌∙◌}
use mathlib.Core.List.{List}
use Prim.Native.Nat.{ℕ, suc, ◌≤◌}
use native.Mathlib.Omega.{arith}
use lib.ListN.{length, take}
use Rattle.terms.specs.Tree.{IsTree}
use Rattle.terms.specs.Matching.{placeAt, SameTree}
use Rattle.terms.specs.Placing.{Occurs, OccursAt}
use Rattle.terms.proofs.EmbedsLaws.{occ_prefix, occ_comp, image_first}
use Rattle.terms.proofs.TreeLaws.{tree_any_depth}
use Rattle.terms.proofs.MatchingLaws.{placing_occ, occ_placing, numbers, numbers_at, occurs_trans, same_occurs, same_symmetric, same_reflexive, same_from}
use Rattle.terms.proofs.BeginningLaws.{beginning_tree}
use Rattle.occurrence.specs.Claims.{OccursSame, OccursAtSame, OccursInItself, OccursInEqualSize}

-- A placing of a pattern gives one of each of its beginnings that is not empty, at the same root.
pub beginning_occurs_at : (s t : List ℕ) (n v : ℕ) → IsTree s → suc n ≤ length s → OccursAt s t v → OccursAt (take (suc n) s) t v
beginning_occurs_at s t n v tree h o = record { tuple = numbers (length first) φ; placing = occ_placing begun (occ_prefix s t φ (suc n) h (placing_occ o.placing)); root = numbers_at (length first) φ 0 begun.has_root ∙ here }
  where
    first : List ℕ
    first = take (suc n) s

    φ : ℕ → ℕ
    φ = placeAt o.tuple

    begun : IsTree (take (suc n) s)
    begun = beginning_tree s n h tree

    here : suc (placeAt o.tuple 0) ≡ suc v
    here = omega (arith, o.root)

-- Occurrence is of unordered trees.
occurs_by_same : {s s' t t' : List ℕ} → IsTree s' → SameTree s' s → SameTree t t' → Occurs s t → Occurs s' t'
occurs_by_same ts' a b o = occurs_trans ts' (occurs_trans ts' (same_occurs a) o) (same_occurs b)

pub occurs_same : OccursSame
occurs_same s s' t t' ts ts' tt tt' a b = (occurs_by_same ts' (same_symmetric ts ts' a) b, occurs_by_same ts a (same_symmetric tt tt' b))

-- So is occurrence at a node, as far as the pattern goes: its root has one place in every order of children.
root_first : {s t : List ℕ} → IsTree s → IsTree t → (e : SameTree s t) → placeAt e.tuple 0 ≡ 0
root_first {s} {t} ts tt e =
    let z = e.none_left_over 1 (omega arith) tt.has_root in
    omega (arith, z.2, image_first (length s) s t (placeAt e.tuple) (tree_any_depth ts) (placing_occ e.matching) z.0 (omega (arith, z.1)) z.1)

occurs_at_by_same : {s s' t : List ℕ} {v : ℕ} → IsTree s → IsTree s' → SameTree s' s → OccursAt s t v → OccursAt s' t v
occurs_at_by_same {s} {s'} {t} {v} ts ts' e o = record { tuple = numbers (length s') φ; placing = occ_placing ts' (occ_comp s' s t (placeAt e.tuple) (placeAt o.tuple) (placing_occ e.matching) (placing_occ o.placing)); root = numbers_at (length s') φ 0 ts'.has_root ∙ here }
  where
    φ : ℕ → ℕ
    φ i = placeAt o.tuple (placeAt e.tuple i)

    here : suc (placeAt o.tuple (placeAt e.tuple 0)) ≡ suc v
    here = rw (root_first ts' ts e) (omega (arith, o.root))

pub occurs_at_same : OccursAtSame
occurs_at_same s s' t v ts ts' e = (occurs_at_by_same ts ts' (same_symmetric ts ts' e), occurs_at_by_same ts' ts e)

pub occurs_in_itself : OccursInItself
occurs_in_itself s t = same_occurs (same_reflexive t)

-- Two trees of equal size, one occurring in the other, are the same up to the order of children.
pub occurs_in_equal_size : OccursInEqualSize
occurs_in_equal_size s t ts e o = same_from ts (record { size = e; map = placeAt o.tuple; occurs = placing_occ o.placing })
