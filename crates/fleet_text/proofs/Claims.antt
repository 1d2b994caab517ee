-- The claim of specs/Claims, proved.
use mathlib.Core.List.{[], ◌∷◌}
use native.Mathlib.Omega.{arith}
use Rattle.terms.specs.Fleet.{vehicles}
use Rattle.fleet_text.specs.Claims.{TextShortClaim}
use Rattle.fleet_text.proofs.LengthLaws.{text_length}

pub text_short_claim : TextShortClaim
unfolding TextShortClaim vehicles
text_short_claim [] f = absurd (omega (arith, f.some_tree))
text_short_claim (x ∷ pairs) f = text_length x pairs f
