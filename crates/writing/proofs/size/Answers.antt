use lib.Seq.{length-take-le}
use native.Mathlib.Omega.{arith}
use Rattle.writing.proofs.WriteSteps as wl
use Rattle.writing.proofs.size.Goals as goal

pub loop-x-init : goal.loop-x-init
loop-x-init c = (omega arith, (omega arith, wl.written_first _))

pub loop-x-preserved : goal.loop-x-preserved
loop-x-preserved c = (omega arith, (omega (arith, c.packed_record-size.ensures.len_bound.0), wl.written_next c.args.pairs.now c.loop-x.x-index c.loop-x.size c.loop-x.previous c.loop-x.invariant.1.1 (omega arith) _ c.packed_record-size.ensures.bytes_value c.packed_record-size.result.len (length-take-le c.packed_record-size.result.len c.packed_record-size.result.bytes c.packed_record-size.ensures.len_bound.1)))
