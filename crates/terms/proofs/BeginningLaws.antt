-- LAWS. The beginnings of a tree: trees, occurring in it, in their form where it is in its form (001, lemma 4); the pair that may come next.
use mathlib.Core.Path.{◌≡◌, refl}
use mathlib.Core.List.{List, [], ◌∷◌, ◌++◌}
use Prim.Native.Nat.{ℕ, zero, suc, ◌+◌, ◌-◌, ◌/◌, ◌≤◌, ◌<◌}
use native.Mathlib.Omega.{arith}
use lib.ListN.{length, get_or, take, length-append}
use lib.Seq.{get_or-take, length-take-le, get_or-append_seam}
use Rattle.terms.specs.Placing.{Occurs}
use Rattle.terms.specs.Form.{InForm}
use Rattle.terms.specs.Tree.{depthAt, IsPair, IsTree}
use Rattle.terms.proofs.PreorderLinks.{Embeds}
use Rattle.terms.proofs.Canonical.{canon_prefix}
use Rattle.terms.proofs.EmbedsLaws.{occ_prefix}
use Rattle.terms.proofs.TreeLaws.{tree_any_depth}
use Rattle.terms.proofs.MatchingLaws.{occ_placing}
use Rattle.terms.proofs.FormLaws.{canon_in_form, in_form_canon}

-- a beginning of a tree is a tree
pub beginning_tree : (s : List ℕ) (n : ℕ) → suc n ≤ length s → IsTree s → IsTree (take (suc n) s)
beginning_tree s n h t = record {
  has_root = omega (arith, len);
  pairs = λ i b. rw (at i (omega (arith, len))) (t.pairs i (omega (arith, len)));
  root_depth = rw (at 0 (omega arith)) t.root_depth;
  later_from_1 = λ i b. rw (at (suc i) (omega (arith, len))) (t.later_from_1 i (omega (arith, len)));
  later_to_next = λ i b. rw (at (suc i) (omega (arith, len)), at i (omega (arith, len))) (t.later_to_next i (omega (arith, len)));
}
  where
    len : length (take (suc n) s) ≡ suc n
    len = length-take-le (suc n) s h

    at : (i : ℕ) → i < suc n → get_or (take (suc n) s) i 0 ≡ get_or s i 0
    at i b = get_or-take (suc n) s i 0 b

-- and occurs in it
pub beginning_occurs : (s : List ℕ) (n : ℕ) → suc n ≤ length s → IsTree s → Occurs (take (suc n) s) s
beginning_occurs s n h t = record { tuple = _; placing = occ_placing (beginning_tree s n h t) (occ_prefix s s (λ i. i) (suc n) h whole) }
  where
    whole : Embeds s s (λ i. i)
    whole = record { bound = λ i b. b; labels = λ i b. refl; inj = λ i j b c e. e; parents = λ i j b c r. r }

pub beginning_in_form : (s : List ℕ) (n : ℕ) → suc n ≤ length s → InForm s → InForm (take (suc n) s)
beginning_in_form s n h f = canon_in_form (beginning_tree s n h f.is_tree) (canon_prefix s n (tree_any_depth f.is_tree) (in_form_canon f)).1

-- the pair that may come next: a number below 16,000, not deeper than one more than the last
pub next_pair : (s : List ℕ) (x : ℕ) → 1 ≤ length s → IsTree (s ++ x ∷ []) → IsPair x × (1 ≤ x / 1000) × (x / 1000 ≤ suc (depthAt (s ++ x ∷ []) (length s - 1)))
next_pair s x h t = go (length s) refl h
  where
    last : get_or (s ++ x ∷ []) (length s) 0 ≡ x
    last = get_or-append_seam s x [] 0

    len : length (s ++ x ∷ []) ≡ length s + 1
    len = length-append s (x ∷ [])

    go : (n : ℕ) → length s ≡ n → 1 ≤ n → IsPair x × (1 ≤ x / 1000) × (x / 1000 ≤ suc (depthAt (s ++ x ∷ []) (length s - 1)))
    go zero e b = absurd (omega arith)
    go (suc n) e b =
        let at : get_or (s ++ x ∷ []) (suc n) 0 ≡ x = rw e at last in
        let m : length s - 1 ≡ n = omega arith in
        let p = t.pairs (suc n) (omega (arith, len)) in
        let q = t.later_from_1 n (omega (arith, len)) in
        let r = t.later_to_next n (omega (arith, len)) in
        (rw at at p, rw at at q, rw m (rw at at r))
