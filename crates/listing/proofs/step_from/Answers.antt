use mathlib.Core.Path.{◌∙◌}
use Rattle.listing.specs.Listing as L
use Rattle.listing.proofs.StartStepLaws as s
use Rattle.listing.proofs.step_from.Goals as goal

pub returns-then-number-ne0 : goal.returns-then-number-ne0
returns-then-number-ne0 c = s.step_refused (L.asks c.args.fleet.now c.args.request) _ _ _ (s.a_fleet c.args.request c.requires.0 c.request_refusal-number.ensures) c.if-number-ne0.true

pub returns-then-number-ne0-2 : goal.returns-then-number-ne0-2
returns-then-number-ne0-2 c = s.pattern_refused (L.asks c.args.fleet.now c.args.request) _ _ _ (s.a_fleet c.args.request c.requires.0 c.request_refusal-number.ensures) _ c.if-number-ne0.false c.pattern_refusal-number.ensures c.if-number-ne0-2.true

pub returns-then-output-request : goal.returns-then-output-request
returns-then-output-request c = s.step_short (L.asks c.args.fleet.now c.args.request) _ _ _ (s.a_fleet c.args.request c.requires.0 c.request_refusal-number.ensures) _ c.if-number-ne0.false c.pattern_refusal-number.ensures c.if-number-ne0-2.false c.if-output-request.true

pub of-given-requires : goal.of-given-requires
of-given-requires c = s.few_pairs (s.accepted (L.asks c.args.fleet.now c.args.request) _ (s.a_fleet c.args.request c.requires.0 c.request_refusal-number.ensures) c.if-number-ne0.false) (s.within_bound c.args.pattern.now c.args.request.bound _ c.pattern_refusal-number.ensures c.if-number-ne0-2.false)

pub find-next-requires : goal.find-next-requires
find-next-requires c = (c.requires.0, c.requires.1, s.first_input_of _ (s.accepted (L.asks c.args.fleet.now c.args.request) _ (s.a_fleet c.args.request c.requires.0 c.request_refusal-number.ensures) c.if-number-ne0.false) c.args.pattern.now c.pattern_refusal-number.ensures c.if-number-ne0-2.false c.of-given.ensures)

pub give-requires : goal.give-requires
give-requires c = s.give_input _ c.args.output.now (s.accepted (L.asks c.args.fleet.now c.args.request) _ (s.a_fleet c.args.request c.requires.0 c.request_refusal-number.ensures) c.if-number-ne0.false) c.find-next.ensures c.if-output-request.false

pub returns : goal.returns
returns c = c.give.ensures ∙ s.step_given (L.asks c.args.fleet.now c.args.request) _ _ _ (s.a_fleet c.args.request c.requires.0 c.request_refusal-number.ensures) _ c.if-number-ne0.false c.pattern_refusal-number.ensures c.if-number-ne0-2.false c.if-output-request.false _ c.of-given.ensures.1 _ c.find-next.ensures
