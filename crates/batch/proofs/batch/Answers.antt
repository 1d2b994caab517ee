use native.Mathlib.Omega.{arith}
use mathlib.Core.Path.{◌∙◌}
use Rattle.terms.proofs.DecidedLaws.{denied, not_denied}
use Rattle.listing.specs.Listing.{asks}
use Rattle.listing.proofs.StartStepLaws.{no_fleet, fleet_told}
use Rattle.batch.specs.Batch.{batch_of}
use Rattle.batch.proofs.BatchLaws as l
use Rattle.std.proofs.lemmas.Bool.{not_from_false, not_from_true}
use Rattle.batch.proofs.batch.Goals as goal

pub returns-then-not-is_fleet : goal.returns-then-not-is_fleet
returns-then-not-is_fleet c = let z = let q = asks c.args.fleet.now c.args.request in l.asked_refused (batch_of q c.args.pattern.now c.args.output.now c.args.found.now) _ (no_fleet q (denied _ (not_from_false _ c.if-not-is_fleet.true) ∙ c.is_fleet.ensures)) (omega arith) in record { value = z.0; output_after = z.1.0; found_after = z.1.1 }

pub batch_from-requires : goal.batch_from-requires
batch_from-requires c = (fleet_told c.args.fleet.now (not_denied _ (not_from_true _ c.if-not-is_fleet.false) ∙ c.is_fleet.ensures), λ h. absurd (omega arith))
