use native.Mathlib.Omega.{arith}
use Rattle.listing.specs.Listing.{asks}
use Rattle.listing.proofs.StartStepLaws.{a_fleet}
use Rattle.batch.specs.Batch.{batch_of}
use Rattle.batch.proofs.BatchLaws as l
use Rattle.batch.proofs.batch_from.Goals as goal

pub returns-then-number-ne0 : goal.returns-then-number-ne0
returns-then-number-ne0 c = let z = l.asked_refused (batch_of (asks c.args.fleet.now c.args.request) c.args.pattern.now c.args.output.now c.args.found.now) _ (a_fleet c.args.request c.requires.0 c.request_refusal-number.ensures) c.if-number-ne0.true in record { value = z.0; output_after = z.1.0; found_after = z.1.1 }

pub returns-then-number-ne0-2 : goal.returns-then-number-ne0-2
returns-then-number-ne0-2 c = let z = l.pattern_refused (batch_of (asks c.args.fleet.now c.args.request) c.args.pattern.now c.args.output.now c.args.found.now) _ (a_fleet c.args.request c.requires.0 c.request_refusal-number.ensures) c.if-number-ne0.false _ c.after_refusal-number.ensures c.if-number-ne0-2.true in record { value = z.0; output_after = z.1.0; found_after = z.1.1 }

pub returns-then-output-request : goal.returns-then-output-request
returns-then-output-request c = let z = l.output_short (batch_of (asks c.args.fleet.now c.args.request) c.args.pattern.now c.args.output.now c.args.found.now) _ (a_fleet c.args.request c.requires.0 c.request_refusal-number.ensures) c.if-number-ne0.false _ c.after_refusal-number.ensures c.if-number-ne0-2.false c.if-output-request.true in record { value = z.0; output_after = z.1.0; found_after = z.1.1 }

pub returns-then-found-lt1 : goal.returns-then-found-lt1
returns-then-found-lt1 c = let z = l.found_short (batch_of (asks c.args.fleet.now c.args.request) c.args.pattern.now c.args.output.now c.args.found.now) _ (a_fleet c.args.request c.requires.0 c.request_refusal-number.ensures) c.if-number-ne0.false _ c.after_refusal-number.ensures c.if-number-ne0-2.false c.if-output-request.false (omega (arith, c.if-found-lt1.true)) in record { value = z.0; output_after = z.1.0; found_after = z.1.1 }

pub of-first-requires : goal.of-first-requires
of-first-requires c = l.few (batch_of (asks c.args.fleet.now c.args.request) c.args.pattern.now c.args.output.now c.args.found.now) _ (a_fleet c.args.request c.requires.0 c.request_refusal-number.ensures) c.if-number-ne0.false _ c.after_refusal-number.ensures c.if-number-ne0-2.false

pub fill_counted-requires : goal.fill_counted-requires
fill_counted-requires c = let i = l.fill_input (batch_of (asks c.args.fleet.now c.args.request) c.args.pattern.now c.args.output.now c.args.found.now) _ (a_fleet c.args.request c.requires.0 c.request_refusal-number.ensures) c.if-number-ne0.false _ c.after_refusal-number.ensures c.if-number-ne0-2.false _ c.of-first.ensures in (c.requires.1, i.0, i.1)

pub returns : goal.returns
returns c = let z = l.all_right (batch_of (asks c.args.fleet.now c.args.request) c.args.pattern.now c.args.output.now c.args.found.now) _ (a_fleet c.args.request c.requires.0 c.request_refusal-number.ensures) c.if-number-ne0.false _ c.after_refusal-number.ensures c.if-number-ne0-2.false c.if-output-request.false c.if-found-lt1.false (l.filled_after c.of-first.ensures.1 c.fill_counted.ensures) in record { value = z.0; output_after = z.1.0; found_after = z.1.1 }
