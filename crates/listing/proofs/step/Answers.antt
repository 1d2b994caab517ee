use native.Mathlib.Omega.{arith}
use mathlib.Core.Path.{◌∙◌}
use Rattle.terms.proofs.DecidedLaws.{denied, not_denied}
use Rattle.listing.specs.Listing as L
use Rattle.listing.proofs.StartStepLaws as s
use Rattle.std.proofs.lemmas.Bool.{not_from_false, not_from_true}
use Rattle.listing.proofs.step.Goals as goal

pub returns-then-not-is_fleet : goal.returns-then-not-is_fleet
returns-then-not-is_fleet c = let q = L.asks c.args.fleet.now c.args.request in s.step_refused q _ _ _ (s.no_fleet q (denied _ (not_from_false _ c.if-not-is_fleet.true) ∙ c.is_fleet.ensures)) (omega arith)

pub step_from-requires : goal.step_from-requires
step_from-requires c = (s.fleet_told c.args.fleet.now (not_denied _ (not_from_true _ c.if-not-is_fleet.false) ∙ c.is_fleet.ensures), λ h. absurd (omega arith))
