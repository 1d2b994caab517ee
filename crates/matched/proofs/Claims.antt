-- The claims of specs/Claims, proved.
use Rattle.matched.specs.Claims.{MatchedLargerClaim}
use Rattle.matched.proofs.MatchedLaws.{matched_larger}

pub matched_larger_claim : MatchedLargerClaim
unfolding MatchedLargerClaim
matched_larger_claim fleet table p n x b v t h m none = matched_larger t h m none v
