-- LAWS. Closed and maximal by any count that never grows: supertrees of one more node are enough, and of these the candidates.
use mathlib.Core.Path.{◌≡◌, sym, ◌∙◌}
use mathlib.Core.Logic.{◌↔◌, ◌⊎◌, inl, inr, ⊎_elim}
use mathlib.Core.List.{List}
use Prim.Native.Nat.{ℕ, zero, suc, ◌≤◌, ◌<◌}
use native.Mathlib.Omega.{arith}
use native.Mathlib.Decide.{dec_le}
use lib.ListN.{length}
use Rattle.terms.specs.Matching.{SameTree}
use Rattle.terms.specs.Tree.{IsTreeAnyDepth}
use Rattle.terms.proofs.MatchingLaws.{same_occurs, same_length, occurs_trans_any_depth}
use Rattle.terms.proofs.Decide.{map?, either?, not?, some_below?}
use Rattle.supertrees.specs.Supertree.{ProperSupertree, Closed, Maximal, LargerReaches}
use Rattle.supertrees.specs.Profile.{Selects}
use Rattle.occurrence.specs.Support.{NeverGrows}
use Rattle.supertrees.specs.Candidate.{Candidate, leaf_under, root_above, candidate_tree, IsCandidate}
use Rattle.occurrence.proofs.SupportLaws.{never_grows_same}
use Rattle.supertrees.proofs.CandidateLaws.{Between, one_node_between, candidate_supertree, one_node_proper}

module _ (count : List ℕ → ℕ) (never : NeverGrows count) where
  -- "Show that looking at supertrees of one more node is enough."
  pub maximal_by_one_node : (threshold : ℕ) (p : List ℕ) → IsTreeAnyDepth p → Maximal count threshold p ↔ (¬ LargerReaches count threshold p)
  maximal_by_one_node threshold p tp = (λ k l. k.none_reaches l.tree (one_node_proper l.larger) l.enough, λ n. record { none_reaches = λ q s h. n (at q s h (one_node_between p q tp s)) })
    where
      at : (q : List ℕ) → ProperSupertree p q → threshold ≤ count q → Between p q → LargerReaches count threshold p
      at q s h b = record { tree = candidate_tree p b.candidate; larger = candidate_supertree p b.candidate tp b.is_candidate; enough = omega (arith, h, never (candidate_tree p b.candidate) q b.is_tree s.is_tree b.below) }

  -- a profile is a limit: closed is maximal at the pattern's own count
  pub closed_at_own_count : (p : List ℕ) → IsTreeAnyDepth p → Closed count p ↔ Maximal count (count p) p
  closed_at_own_count p tp = (
    λ k. record { none_reaches = λ q s h. k.none_equal q s (omega (arith, never p q tp s.is_tree s.occurs)) },
    λ k. record { none_equal = λ q s e. k.none_reaches q s (omega arith) },
  )

  pub closed_by_one_node : (p : List ℕ) → IsTreeAnyDepth p → Closed count p ↔ (¬ LargerReaches count (count p) p)
  closed_by_one_node p tp =
      let own = closed_at_own_count p tp in
      let one = maximal_by_one_node (count p) p tp in
      ((λ k. one.0 (own.0 k)), (λ n. own.1 (one.1 n)))

  -- closed and maximal are of unordered trees
  pub closed_same : (s t : List ℕ) → IsTreeAnyDepth s → IsTreeAnyDepth t → SameTree s t → Closed count s → Closed count t
  closed_same s t ts tt e k = record { none_equal = λ q z h. k.none_equal q (record { is_tree = z.is_tree; occurs = occurs_trans_any_depth ts (same_occurs e) z.occurs; more_nodes = omega (arith, z.more_nodes, same_length e) }) (omega (arith, never_grows_same never ts tt e)) }

pub maximal_same : (count : List ℕ → ℕ) (threshold : ℕ) (s t : List ℕ) → IsTreeAnyDepth s → SameTree s t → Maximal count threshold s → Maximal count threshold t
maximal_same count threshold s t ts e k = record { none_reaches = λ q z h. k.none_reaches q (record { is_tree = z.is_tree; occurs = occurs_trans_any_depth ts (same_occurs e) z.occurs; more_nodes = omega (arith, z.more_nodes, same_length e) }) h }

-- "a maximal form is always closed"
pub maximal_closed : (count : List ℕ → ℕ) (threshold : ℕ) (p : List ℕ) → threshold ≤ count p → Maximal count threshold p → Closed count p
maximal_closed count threshold p h k = record { none_equal = λ q s e. k.none_reaches q s (omega arith) }

-- counts that agree on trees select the same
pub selects_same : {count other : List ℕ → ℕ} → ((s : List ℕ) → IsTreeAnyDepth s → count s ≡ other s) → (profile threshold : ℕ) (p : List ℕ) → IsTreeAnyDepth p → Selects profile count threshold p → Selects profile other threshold p
unfolding Selects
selects_same e zero threshold p tp k = tt
selects_same e (suc zero) threshold p tp k = record { none_equal = λ q s h. k.none_equal q s (e q s.is_tree ∙ h ∙ sym (e p tp)) }
selects_same e (suc (suc n)) threshold p tp k = record { none_reaches = λ q s h. k.none_reaches q s (omega (arith, h, e q s.is_tree)) }

-- decided, by the candidates
unfoldable pub larger_reaches? : (count : List ℕ → ℕ) → NeverGrows count → (need : ℕ) (p : List ℕ) → IsTreeAnyDepth p → Dec (LargerReaches count need p)
unfolding map? either? some_below? candidate_tree dec_le
larger_reaches? count never need p tp = map? to from (some_below? At (λ j. either? (reaches? (root_above (suc j))) (some_below? (λ i. Reaches (leaf_under i (suc j))) (λ i. reaches? (leaf_under i (suc j))) (length p))) 999)
  where
    Reaches : Candidate → Type 0
    Reaches c = need ≤ count (candidate_tree p c)

    reaches? : (c : Candidate) → Dec (Reaches c)
    reaches? c = dec_le need (count (candidate_tree p c))

    -- with the label j + 1
    At : ℕ → Type 0
    At j = Reaches (root_above (suc j)) ⊎ ((i : ℕ) × (i < length p) × Reaches (leaf_under i (suc j)))

    found : (c : Candidate) → IsCandidate p c → Reaches c → LargerReaches count need p
    found c k h = record { tree = candidate_tree p c; larger = candidate_supertree p c tp k; enough = h }

    to : (j : ℕ) × (j < 999) × At j → LargerReaches count need p
    to z = let b = z.1 in ⊎_elim (λ h. found (root_above (suc z.0)) (record { node = tp.has_root; from_1 = omega arith; to_999 = b }) h) (λ y. found (leaf_under y.0 (suc z.0)) (record { node = y.1; from_1 = omega arith; to_999 = b }) y.2) z.2

    at : (c : Candidate) → IsCandidate p c → Reaches c → (j : ℕ) × (j < 999) × At j
    at (root_above zero) k h = absurd (omega (arith, k.from_1))
    at (root_above (suc l)) k h = (l, k.to_999, inl h)
    at (leaf_under i zero) k h = absurd (omega (arith, k.from_1))
    at (leaf_under i (suc l)) k h = (l, k.to_999, inr (i, k.node, h))

    from : LargerReaches count need p → (j : ℕ) × (j < 999) × At j
    from l =
        let b = one_node_between p l.tree tp (one_node_proper l.larger) in
        at b.candidate b.is_candidate (omega (arith, l.enough, never (candidate_tree p b.candidate) l.tree b.is_tree l.larger.is_tree b.below))

unfoldable pub selects? : (profile : ℕ) (count : List ℕ → ℕ) → NeverGrows count → (threshold : ℕ) (p : List ℕ) → IsTreeAnyDepth p → Dec (Selects profile count threshold p)
unfolding Selects map? not? larger_reaches?
selects? zero count never threshold p tp = yes tt
selects? (suc zero) count never threshold p tp = let one = closed_by_one_node count never p tp in map? one.1 one.0 (not? (larger_reaches? count never (count p) p tp))
selects? (suc (suc n)) count never threshold p tp = let one = maximal_by_one_node count never threshold p tp in map? one.1 one.0 (not? (larger_reaches? count never threshold p tp))
