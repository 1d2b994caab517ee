use mathlib.Core.Path.{refl}
use native.Mathlib.Omega.{arith}
use Rattle.fleet_text.specs.Claims.{TextShortClaim}
use Rattle.fleet_text.proofs.Claims.{text_short_claim}
use Rattle.fleet_text.proofs.stated_fleet_text.Goals as goal

pub returns : goal.returns
unfolding TextShortClaim
returns c = record { value = refl; by_index = λ pairs f. omega (arith, text_short_claim pairs f, f.nodes) }
