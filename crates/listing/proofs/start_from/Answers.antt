use native.Mathlib.Omega.{arith}
use mathlib.Core.Path.{◌∙◌}
use Rattle.listing.specs.Listing as L
use Rattle.listing.proofs.StartStepLaws as s
use Rattle.listing.proofs.start_from.Goals as goal

pub returns-then-number-ne0 : goal.returns-then-number-ne0
returns-then-number-ne0 c = s.start_refused (L.asks c.args.fleet.now c.args.request) _ _ (s.a_fleet c.args.request c.requires.0 c.request_refusal-number.ensures) c.if-number-ne0.true

pub returns-then-request-output : goal.returns-then-request-output
returns-then-request-output c = s.start_short (L.asks c.args.fleet.now c.args.request) _ _ (s.a_fleet c.args.request c.requires.0 c.request_refusal-number.ensures) c.if-number-ne0.false c.if-request-output.true

pub find-next-requires : goal.find-next-requires
find-next-requires c = (c.requires.0, c.requires.1, s.first_input _ (s.accepted (L.asks c.args.fleet.now c.args.request) _ (s.a_fleet c.args.request c.requires.0 c.request_refusal-number.ensures) c.if-number-ne0.false) (omega (arith, c.empty-none.ensures.0)) (λ k. absurd (omega (arith, c.empty-none.ensures.0))))

pub give-requires : goal.give-requires
give-requires c = s.give_input _ c.args.output.now (s.accepted (L.asks c.args.fleet.now c.args.request) _ (s.a_fleet c.args.request c.requires.0 c.request_refusal-number.ensures) c.if-number-ne0.false) c.find-next.ensures c.if-request-output.false

pub returns : goal.returns
returns c = c.give.ensures ∙ s.start_given (L.asks c.args.fleet.now c.args.request) _ _ (s.a_fleet c.args.request c.requires.0 c.request_refusal-number.ensures) c.if-number-ne0.false c.if-request-output.false _ c.empty-none.ensures.1 _ c.find-next.ensures
