use native.Mathlib.Omega.{arith}
use Rattle.counts.proofs.gather.Goals as goal

pub gather_by-requires : goal.gather_by-requires
gather_by-requires c = (c.requires, omega (arith, c.top.ensures, c.if-top-le-SHALLOW.true), omega arith)
