use native.Mathlib.Omega.{arith}
use mathlib.Core.Path.{sym, ◌∙◌, ◌≡◌}
use mathlib.Core.Bool.{true, false}
use Rattle.listing.specs.Listing as L
use Rattle.listing.proofs.StartStepLaws as s
use Rattle.listing.proofs.start.Goals as goal

pub start_from-requires : goal.start_from-requires
start_from-requires c = let accepted : c.is_fleet.result ≡ true = cc in (s.fleet_told c.args.fleet.now (sym accepted ∙ c.is_fleet.ensures), λ h. absurd (omega arith))

pub returns : goal.returns
returns c = let q = L.asks c.args.fleet.now c.args.request in s.start_refused q _ _ (s.no_fleet q (let refused : c.is_fleet.result ≡ false = cc in sym refused ∙ c.is_fleet.ensures)) (omega arith)
