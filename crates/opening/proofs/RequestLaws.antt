-- LAWS. The limits of a request, and the nodes read.
use mathlib.Core.Path.{◌≡◌, refl, sym, ap}
use Prim.Native.Nat.{ℕ, ◌≤◌}
use Rattle.terms.specs.Refusal.{refusal, AllKept, also, no_rule, and_rule}
use Rattle.terms.proofs.RefusalLaws.{answered_exactly}
use Rattle.matching.specs.Limits.{most_nodes_of_a_pattern}
use Rattle.search.specs.declared.Request.{Request}
use Rattle.listing.specs.Calls.{request_rules}
use Rattle.fleet.specs.declared.Answer.{Answer}
use Rattle.fleet.specs.declared.Answer.TheVariants.{Done, Refused}
use Rattle.run.specs.Running.{nodes_in}

-- what is known where no rule of a request is broken
pub record InLimits (request : Request) : Type 0 where
  pub from_1 : 1 ≤ request.threshold
  pub bound_to_most : request.bound ≤ most_nodes_of_a_pattern

pub in_limits : (request : Request) → refusal (request_rules request) ≡ 0 → InLimits request
in_limits request e = go ((answered_exactly (and_rule 10 refl (and_rule 11 refl (and_rule 18 refl no_rule)))).0 e)
  where
    go : AllKept (request_rules request) → InLimits request
    go (also a (also b _)) = record { from_1 = a.0; bound_to_most = b.1 }

-- the nodes by the answer of the reading
pub nodes_none : {a : Answer} {n : ℕ} → a ≡ Refused n → 0 ≡ nodes_in a
unfolding nodes_in
nodes_none e = ap nodes_in (sym e)

pub nodes_some : {a : Answer} {n : ℕ} → a ≡ Done n → n ≡ nodes_in a
unfolding nodes_in
nodes_some e = ap nodes_in (sym e)
