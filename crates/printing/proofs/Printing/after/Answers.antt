use native.Mathlib.Omega.{arith}
use Rattle.printing.proofs.AheadLaws as l
use Rattle.printing.proofs.Printing.after.Goals as goal

pub next-next-requires : goal.next-next-requires
next-next-requires c = ((λ h. absurd (omega arith)), c.requires)

pub found-requires : goal.found-requires
found-requires c = tt

pub returns : goal.returns
returns c = let z = l.goes_after c.requires _ c.next-next.ensures c.found.ensures in record { fleet_value = z.0; printing = z.1 }
