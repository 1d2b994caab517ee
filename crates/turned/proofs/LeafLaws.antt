-- LAWS. Every supertree of one more node is the tree with a new root, or, turned, the tree with a new last leaf.
use mathlib.Core.Path.{◌≡◌, refl, sym, ap, ◌∙◌}
use mathlib.Core.List.{List}
use Prim.Native.Nat.{ℕ, zero, suc, ◌+◌, ◌-◌, ◌%◌, ◌≤◌, ◌<◌}
use native.Mathlib.Omega.{arith}
use native.Mathlib.Decide.{dec_lt}
use lib.ListN.{length}
use Rattle.terms.specs.Tree.{pair, depthAt, IsTree}
use Rattle.terms.specs.Matching.{placeAt, SameTree}
use Rattle.terms.specs.Fleet.{IsFleet}
use Rattle.terms.proofs.PreorderLinks.{Embeds}
use Rattle.terms.proofs.EmbedsLaws.{occ_comp}
use Rattle.terms.proofs.TreeLaws.{tree_any_depth}
use Rattle.terms.proofs.MatchingLaws.{same_occurs, same_length}
use Rattle.occurrence.specs.Support.{whole_support}
use Rattle.occurrence.proofs.SupportLaws.{never_grows_same, whole_support_never_grows}
use Rattle.rightmost.specs.Ends.{Up, itself, IsChild, NewChild}
use Rattle.rightmost.proofs.UpLaws.{up_more}
use Rattle.rightmost.proofs.TestLaws.{next_child}
use Rattle.rightmost.proofs.LongerLaws.{longer, longer_length, longer_tree, longer_embeds}
use Rattle.supertrees.specs.Supertree.{OneNodeSupertree, LargerReaches}
use Rattle.supertrees.specs.Candidate.{with_leaf, with_root, leaf_under, root_above, candidate_tree, IsCandidate, Candidate}
use Rattle.supertrees.proofs.AnyDepth.{map_occurs, occurs_same_size, occurring_is_tree}
use Rattle.supertrees.proofs.CandidateLaws.{candidate_supertree, candidates_cover, CoveredBy}
use Rattle.supertrees.proofs.CandidateNodes.{leaf_length, leaf_new, leaf_child, past, past_low, past_leaf, past_embeds}
use Rattle.supertrees.proofs.HeldLaws.{held_is_tree}
use Rattle.turned.specs.Turned.{TurnedToEnd, IsLeaf}
use Rattle.turned.proofs.TurnedLaws.{Back, same_back, same_depth, turned_branch}

-- A leaf under node i, as the last leaf of the tree turned.
pub record LastLeaf (p : List ℕ) (i l : ℕ) (r : List ℕ) : Type 0 where
  pub x : ℕ
  pub b : ℕ
  pub new_child : NewChild r x b
  pub same : SameTree (longer r x) (with_leaf p i l)

pub last_leaf : {p r : List ℕ} {leaf i l k : ℕ} → IsTree p → i < length p → l ≤ 999 → IsTree (with_leaf p i l) → Up p i k leaf → TurnedToEnd p leaf r → LastLeaf p i l r
last_leaf {p} {r} {leaf} {i} {l} tp h top tw u t = record { x = x; b = b; new_child = new; same = occurs_same_size (tree_any_depth (longer_tree new)) (omega (arith, longer_length r x, leaf_length p i l h, same_length t.same)) (map_occurs (tree_any_depth (longer_tree new)) (longer_embeds new embeds kid unused)) }
  where
    x : ℕ
    x = pair (suc (depthAt p i)) l

    b : ℕ
    b = placeAt t.same.tuple i

    back : Back p r t.same.tuple
    back = same_back t.same

    new : NewChild r x b
    new = record {
      is_tree = t.is_tree;
      is_pair = rw (leaf_new p i l h) at (tw.pairs (suc i) (omega (arith, leaf_length p i l h)));
      on_branch = turned_branch t u;
      one_deeper = omega (arith, same_depth tp t.is_tree t.same i h);
    }

    embeds : Embeds r (with_leaf p i l) (λ v. past p i l h (back.map v))
    embeds = occ_comp r p (with_leaf p i l) back.map (past p i l h) back.embeds (past_embeds p i l h top)

    kid : IsChild (with_leaf p i l) (past p i l h (back.map b)) (x % 1000) (suc i)
    kid = rw (back.there_and i h, past_low p i l h i (omega arith)) (leaf_child p i l h top, ap (λ (y : ℕ). y % 1000) (leaf_new p i l h))

    unused : (v : ℕ) → v < length r → ¬ (past p i l h (back.map v) ≡ suc i)
    unused v _ = past_leaf p i l h (back.map v)

-- EVERY SUPERTREE OF ONE MORE NODE that a vehicle holds is held by as many as one with a new root; or there is a node i so that, whichever node below
-- it is turned to the end, it is held by as many as one with a new last leaf.
pub data Found (fleet p q : List ℕ) : Type 0 where
  new_root : (l : ℕ) → 1 ≤ l → l ≤ 999 → whole_support fleet q ≡ whole_support fleet (with_root p l) → Found fleet p q
  new_leaf : (i : ℕ) → i < length p → ((leaf k : ℕ) (r : List ℕ) → Up p i k leaf → TurnedToEnd p leaf r → (x b : ℕ) × NewChild r x b × (whole_support fleet q ≡ whole_support fleet (longer r x))) → Found fleet p q

pub larger_found : {fleet p q : List ℕ} → IsFleet fleet → IsTree p → OneNodeSupertree p q → 1 ≤ whole_support fleet q → Found fleet p q
unfolding candidate_tree
larger_found {fleet} {p} {q} f tp s h = go cover.candidate cover.is_candidate cover.same
  where
    cover : CoveredBy p q
    cover = candidates_cover p q (tree_any_depth tp) s

    go : (c : Candidate) → IsCandidate p c → SameTree (candidate_tree p c) q → Found fleet p q
    go (root_above l) c e = new_root l c.from_1 c.to_999 (sym (never_grows_same (whole_support_never_grows fleet) (candidate_supertree p (root_above l) (tree_any_depth tp) c).is_tree s.is_tree e))
    go (leaf_under i l) c e = new_leaf i c.node at
      where
        tw : IsTree (with_leaf p i l)
        tw = occurring_is_tree (candidate_supertree p (leaf_under i l) (tree_any_depth tp) c).is_tree (held_is_tree f s.is_tree h) (same_occurs e)

        at : (leaf k : ℕ) (r : List ℕ) → Up p i k leaf → TurnedToEnd p leaf r → (x b : ℕ) × NewChild r x b × (whole_support fleet q ≡ whole_support fleet (longer r x))
        at leaf k r u t =
            let z = last_leaf tp c.node c.to_999 tw u t in
            let never = whole_support_never_grows fleet in
            (z.x, z.b, z.new_child, sym (never_grows_same never (tree_any_depth tw) s.is_tree e) ∙ sym (never_grows_same never (tree_any_depth (longer_tree z.new_child)) (tree_any_depth tw) z.same))

-- a leaf at or below each node
down : (n : ℕ) {p : List ℕ} → IsTree p → (i : ℕ) → i + n ≡ length p → i < length p → (leaf k : ℕ) × IsLeaf p leaf × Up p i k leaf
down zero t i e h = absurd (omega arith)
down (suc n) {p} t i e h = go (dec_lt (suc i) (length p)) (dec_lt (depthAt p i) (depthAt p (suc i))) (λ l. down n t (suc i) (omega arith) l)
  where
    go : Dec (suc i < length p) → Dec (depthAt p i < depthAt p (suc i)) → (suc i < length p → (leaf k : ℕ) × IsLeaf p leaf × Up p (suc i) k leaf) → (leaf k : ℕ) × IsLeaf p leaf × Up p i k leaf
    go (yes l) (yes d) f = let z = f l in (z.0, suc z.1, z.2, up_more z.3 (next_child l (omega (arith, t.later_to_next i l))))
    go (yes l) (no d) f = (i, 0, record { inside = h; none_below = λ _. omega arith }, itself refl)
    go (no l) _ f = (i, 0, record { inside = h; none_below = λ k. absurd (l k) }, itself refl)

pub leaf_below : {p : List ℕ} → IsTree p → (i : ℕ) → i < length p → (leaf k : ℕ) × IsLeaf p leaf × Up p i k leaf
leaf_below {p} t i h = down (length p - i) t i (omega arith) h

-- ENOUGH: no new root reaches the number, and no new last leaf, whichever leaf is turned to the end.
pub none_reaches : {fleet p : List ℕ} {need : ℕ} → IsFleet fleet → IsTree p → 1 ≤ need → ((l : ℕ) → 1 ≤ l → l ≤ 999 → whole_support fleet (with_root p l) < need)
    → ((leaf : ℕ) → IsLeaf p leaf → (r : List ℕ) × TurnedToEnd p leaf r × ((x b : ℕ) → NewChild r x b → whole_support fleet (longer r x) < need)) → ¬ LargerReaches (whole_support fleet) need p
none_reaches {fleet} {p} {need} f t h roots leaves z = go (larger_found f t z.larger (omega (arith, z.enough)))
  where
    go : Found fleet p z.tree → ⊥
    go (new_root l a b e) = omega (arith, roots l a b, z.enough)
    go (new_leaf i k at) =
        let b = leaf_below t i k in
        let r = leaves b.0 b.2 in
        let y = at b.0 b.1 r.0 b.3 r.1 in
        omega (arith, r.2 y.0 y.1 y.2, y.3, z.enough)
