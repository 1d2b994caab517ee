use native.Mathlib.Omega.{arith}
use Rattle.scan.proofs.ScanLaws as l
use Rattle.scan.proofs.most_of_group.Goals as goal

pub returns : goal.returns
returns c = l.most_of_part _ _ (λ k h. c.loop-count.invariant k (omega (arith, c.loop-count-test.false, l.part_length _ _ c.requires)))
