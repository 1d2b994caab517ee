use native.Mathlib.Omega.{arith}
use Rattle.listing.proofs.StartStepLaws.{no_threshold, no_bound, no_profile, in_limits}
use Rattle.listing.proofs.request_refusal.Goals as goal

pub returns-then-request-lt1 : goal.returns-then-request-lt1
returns-then-request-lt1 c = no_threshold _ (λ p. let q = p.0 in omega arith)

pub returns-then-request-gt-MOST_THRESHOLD : goal.returns-then-request-gt-MOST_THRESHOLD
returns-then-request-gt-MOST_THRESHOLD c = no_threshold _ (λ p. let q = p.1 in omega arith)

pub returns-then-request-lt1-2 : goal.returns-then-request-lt1-2
returns-then-request-lt1-2 c = no_bound _ (omega arith) (omega arith) (λ p. let q = p.0 in omega arith)

pub returns-then-request-gt-PATTERN_NODES : goal.returns-then-request-gt-PATTERN_NODES
returns-then-request-gt-PATTERN_NODES c = no_bound _ (omega arith) (omega arith) (λ p. let q = p.1 in omega arith)

pub returns-then-request-gt-MAXIMAL : goal.returns-then-request-gt-MAXIMAL
returns-then-request-gt-MAXIMAL c = no_profile _ (omega arith) (omega arith) (omega arith) (omega arith) (omega arith)

pub returns : goal.returns
returns c = in_limits _ (omega arith) (omega arith) (omega arith) (omega arith) (omega arith)
