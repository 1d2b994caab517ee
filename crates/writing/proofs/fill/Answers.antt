use Prim.Native.Nat.{◌-◌, ◌+◌}
use mathlib.Core.Path.{◌≡◌, refl}
use lib.ListN.{length, take}
use lib.Seq.{length-take-le}
use native.Mathlib.Omega.{arith}
use Rattle.std.proofs.lemmas.Slice.{put_mid-paste}
use Rattle.writing.specs.Writing.{writing}
use Rattle.writing.proofs.WriteSteps as wl
use Rattle.writing.proofs.fill.Goals as goal

pub loop-x-init : goal.loop-x-init
unfolding writing
loop-x-init c = (omega arith, (refl, (refl, wl.written_first _)))

pub slice_bounds-copy_from_slice-end : goal.slice_bounds-copy_from_slice-end
slice_bounds-copy_from_slice-end c =
    let p = c.packed_record-record in
    let room = wl.room_for c.args.pairs.now c.loop-x.x-index c.loop-x.at c.loop-x.previous c.loop-x.invariant.1.1.1 c.loop-x-test.true _ p.ensures.bytes_value in
    omega (arith, room, c.requires, c.loop-x.invariant.1.0, length-take-le p.result.len p.result.bytes p.ensures.len_bound.1)

pub loop-x-preserved : goal.loop-x-preserved
loop-x-preserved c =
    let p = c.packed_record-record in
    let len : length (take p.result.len p.result.bytes) ≡ p.result.len = length-take-le p.result.len p.result.bytes p.ensures.len_bound.1 in
    let pasted = put_mid-paste c.loop-x.at (c.loop-x.at + p.result.len - c.loop-x.at) c.loop-x.output c.copy_from_slice.new.self _ (length (take p.result.len p.result.bytes)) c.copy_from_slice.ensures.after (omega arith) refl in
    (omega arith, wl.filled_turn c.args.pairs.now c.loop-x.x-index c.loop-x.at c.loop-x.previous c.loop-x.invariant.1.1.1 c.loop-x-test.true _ p.ensures.bytes_value c.args.output.now c.loop-x.output _ p.result.len len pasted c.loop-x.invariant.1.0 c.requires c.loop-x.invariant.1.1.0)
