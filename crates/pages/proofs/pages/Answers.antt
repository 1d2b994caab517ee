use native.Mathlib.Omega.{arith}
use mathlib.Core.Path.{sym, ◌∙◌}
use Rattle.terms.proofs.DecidedLaws.{denied, not_denied}
use Rattle.listing.specs.Listing.{asks}
use Rattle.listing.proofs.StartStepLaws.{no_fleet, a_fleet, fleet_told}
use Rattle.pages.proofs.PagesCallLaws as l
use Rattle.std.proofs.lemmas.Bool.{not_from_false, not_from_true}
use Rattle.pages.proofs.pages.Goals as goal

pub returns-then-not-is_fleet : goal.returns-then-not-is_fleet
returns-then-not-is_fleet c = let z = l.asked_refused (asks c.args.fleet.now c.args.request) c.args.output.now _ (no_fleet (asks c.args.fleet.now c.args.request) (denied _ (not_from_false _ c.if-not-is_fleet.true) ∙ c.is_fleet.ensures)) (omega arith) in record { value = z.0; output_after = z.1 }

pub returns-then-number-ne0 : goal.returns-then-number-ne0
returns-then-number-ne0 c = let z = l.asked_refused (asks c.args.fleet.now c.args.request) c.args.output.now _ (a_fleet c.args.request (fleet_told c.args.fleet.now (not_denied _ (not_from_true _ c.if-not-is_fleet.false) ∙ c.is_fleet.ensures)) c.request_refusal-number.ensures) c.if-number-ne0.true in record { value = z.0; output_after = z.1 }

pub print_counted-requires : goal.print_counted-requires
print_counted-requires c = sym (a_fleet c.args.request (fleet_told c.args.fleet.now (not_denied _ (not_from_true _ c.if-not-is_fleet.false) ∙ c.is_fleet.ensures)) c.request_refusal-number.ensures) ∙ c.if-number-ne0.false

pub returns : goal.returns
returns c = record { value = c.print_counted.ensures.value; output_after = c.print_counted.ensures.output_after }
