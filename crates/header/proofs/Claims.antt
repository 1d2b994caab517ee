-- The claims of specs/Claims, proved.
use mathlib.Core.Path.{ap, ◌∙◌}
use mathlib.Core.List.{List}
use Prim.Native.Nat.{ℕ, ◌+◌}
use native.Mathlib.Omega.{arith}
use lib.ListN.{take, drop}
use lib.Seq.{get_or-take, take-take}
use Rattle.header.specs.Header.{most_sheet_bytes}
use Rattle.header.specs.Claims.{AllReadClaim}
use Rattle.header.proofs.HeaderLaws.{behind_taken}

pub all_read_claim : AllReadClaim
unfolding AllReadClaim
all_read_claim header input =
    ((λ i h. get_or-take (header + most_sheet_bytes) input i 0 (omega arith)), (ap (λ (s : List ℕ). take most_sheet_bytes s) (behind_taken header most_sheet_bytes input) ∙ take-take most_sheet_bytes most_sheet_bytes (drop header input) (omega arith)))
