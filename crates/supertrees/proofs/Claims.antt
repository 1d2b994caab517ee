-- The claims of specs/Claims, proved.
use mathlib.Core.Path.{sym, ◌∙◌}
use native.Mathlib.Omega.{arith}
use Rattle.terms.specs.Matching.{SameTree}
use Rattle.terms.proofs.MatchingLaws.{same_occurs, same_length, same_symmetric_any_depth, occurs_trans_any_depth}
use Rattle.occurrence.proofs.SupportLaws.{support_never_grows}
use Rattle.supertrees.specs.Supertree.{OneNodeSupertree}
use Rattle.supertrees.specs.Candidate.{Candidate, candidate_tree, IsCandidate}
use Rattle.supertrees.specs.Claims.{OneNodeBetweenClaim, CandidatesClaim, MaximalByOneNodeClaim, ClosedByOneNodeClaim, MaximalClosedClaim, SameClosedClaim, SameMaximalClaim, SupertreeNoLargerClaim, TooLargeClaim, ClosedAboveClaim, MaximalAboveClaim}
use Rattle.supertrees.proofs.CandidateLaws.{candidate_supertree, candidates_cover, one_node_between}
use Rattle.supertrees.proofs.ProfileLaws.{maximal_by_one_node, closed_by_one_node, maximal_closed, closed_same, maximal_same}
use Rattle.supertrees.proofs.HeldLaws.{too_large, support_within}
use Rattle.supertrees.proofs.AboveLaws.{closed_above, maximal_above}

pub one_node_between_claim : OneNodeBetweenClaim
unfolding OneNodeBetweenClaim
one_node_between_claim p q tp s = let b = one_node_between p q tp s in (candidate_tree p b.candidate, candidate_supertree p b.candidate tp b.is_candidate, b.below)

pub candidates_claim : CandidatesClaim
unfolding CandidatesClaim
candidates_claim p q tp tq = ((λ s. let z = candidates_cover p q tp s in (z.candidate, z.is_candidate, z.same)), from)
  where
    from : (c : Candidate) × IsCandidate p c × SameTree (candidate_tree p c) q → OneNodeSupertree p q
    from z = let s = candidate_supertree p z.0 tp z.1 in record { is_tree = tq; occurs = occurs_trans_any_depth tp s.occurs (same_occurs z.2); one_more = sym (same_length z.2) ∙ s.one_more }

pub maximal_by_one_node_claim : MaximalByOneNodeClaim
unfolding MaximalByOneNodeClaim
maximal_by_one_node_claim count threshold p never tp = maximal_by_one_node count never threshold p tp

pub closed_by_one_node_claim : ClosedByOneNodeClaim
unfolding ClosedByOneNodeClaim
closed_by_one_node_claim count p never tp = closed_by_one_node count never p tp

pub maximal_closed_claim : MaximalClosedClaim
unfolding MaximalClosedClaim
maximal_closed_claim count threshold p h k = maximal_closed count threshold p h k

pub same_closed_claim : SameClosedClaim
unfolding SameClosedClaim
same_closed_claim count s t never ts tt e = (closed_same count never s t ts tt e, closed_same count never t s tt ts (same_symmetric_any_depth ts tt e))

pub same_maximal_claim : SameMaximalClaim
unfolding SameMaximalClaim
same_maximal_claim count threshold s t ts tt e = (maximal_same count threshold s t ts e, maximal_same count threshold t s tt (same_symmetric_any_depth ts tt e))

pub supertree_no_larger_claim : SupertreeNoLargerClaim
unfolding SupertreeNoLargerClaim
supertree_no_larger_claim fleet p q tp s = support_never_grows fleet p q tp s.is_tree s.occurs

pub too_large_claim : TooLargeClaim
unfolding TooLargeClaim
too_large_claim fleet q f h = let e = too_large fleet q f h in (omega (arith, support_within fleet q), e)

pub closed_above_claim : ClosedAboveClaim
unfolding ClosedAboveClaim
closed_above_claim count most p never large tp h = closed_above count never most large p tp h

pub maximal_above_claim : MaximalAboveClaim
unfolding MaximalAboveClaim
maximal_above_claim count most threshold p never large tp f h = maximal_above count never most large threshold p tp f h
