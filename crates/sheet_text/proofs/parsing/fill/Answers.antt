use borrow.Author.Rules.{rules}
use mathlib.Core.Path.{◌≡◌, refl}
use native.Mathlib.Omega.{arith}
use Prim.Native.Nat.{◌<◌, ◌-◌}
use lib.ListN.{length, length-set}
use Rattle.sheet_text.proofs.ReadingLaws as tr
use Rattle.sheet_text.proofs.FillLaws as fl
use Rattle.sheet_text.proofs.parsing.fill.Goals as goal

pub loop-depth-init : goal.loop-depth-init
loop-depth-init c = (omega arith, (refl, fl.filling_first _ _ c.requires))

pub overflow_mul-pairs : goal.overflow_mul-pairs
overflow_mul-pairs c = let d = fl.depth_to_15 c.loop-depth.invariant.1.1 c.token_at-token.result c.token_at-token.ensures.text_value c.in-Pair.is in omega (arith, d)

pub overflow_add-pairs : goal.overflow_add-pairs
overflow_add-pairs c = let d = fl.depth_to_15 c.loop-depth.invariant.1.1 c.token_at-token.result c.token_at-token.ensures.text_value c.in-Pair.is in
    let l = fl.label_to_999 c.loop-depth.invariant.1.1 c.token_at-token.result c.token_at-token.ensures.text_value c.in-Pair.is in
    omega (arith, d, l)

pub offset_bounds-pairs-nodes : goal.offset_bounds-pairs-nodes
offset_bounds-pairs-nodes c = let a = tr.ahead_pair c.loop-depth.at (length c.args.text.now) c.in-Pair.is c.token_at-token.ensures.ahead in
    let r : c.loop-depth.nodes < length c.args.pairs.now = fl.room_for c.loop-depth.invariant.1.1 c.token_at-token.result c.token_at-token.ensures.text_value c.in-Pair.is a in
    let n : length c.loop-depth.pairs ≡ length c.args.pairs.now = c.loop-depth.invariant.1.0 in
    search rules

pub bounds-pairs-nodes : goal.bounds-pairs-nodes
bounds-pairs-nodes c = let a = tr.ahead_pair c.loop-depth.at (length c.args.text.now) c.in-Pair.is c.token_at-token.ensures.ahead in
    omega (arith, fl.room_for c.loop-depth.invariant.1.1 c.token_at-token.result c.token_at-token.ensures.text_value c.in-Pair.is a, c.loop-depth.invariant.1.0)

pub overflow_add-nodes : goal.overflow_add-nodes
overflow_add-nodes c = let a = tr.ahead_pair c.loop-depth.at (length c.args.text.now) c.in-Pair.is c.token_at-token.ensures.ahead in
    let r : c.loop-depth.nodes < length c.args.pairs.now = fl.room_for c.loop-depth.invariant.1.1 c.token_at-token.result c.token_at-token.ensures.text_value c.in-Pair.is a in
    let n : length c.loop-depth.pairs ≡ length c.args.pairs.now = c.loop-depth.invariant.1.0 in
    search rules

pub loop-depth-smaller-in-Pair : goal.loop-depth-smaller-in-Pair
loop-depth-smaller-in-Pair c = let a = tr.ahead_pair c.loop-depth.at (length c.args.text.now) c.in-Pair.is c.token_at-token.ensures.ahead in omega (arith, a.0, a.1)

pub loop-depth-preserved-in-Pair : goal.loop-depth-preserved-in-Pair
loop-depth-preserved-in-Pair c = let a = tr.ahead_pair c.loop-depth.at (length c.args.text.now) c.in-Pair.is c.token_at-token.ensures.ahead in
    (a.1, (simp length-set c.loop-depth.invariant.1.0, fl.fill_pair c.loop-depth.invariant.1.1 c.token_at-token.result c.token_at-token.ensures.text_value c.in-Pair.is a))

pub loop-depth-smaller : goal.loop-depth-smaller
loop-depth-smaller c = let a = tr.ahead_line c.loop-depth.at (length c.args.text.now) c.in-LineEnd.is c.token_at-token.ensures.ahead in omega (arith, a.0, a.1)

pub loop-depth-preserved : goal.loop-depth-preserved
loop-depth-preserved c = let a = tr.ahead_line c.loop-depth.at (length c.args.text.now) c.in-LineEnd.is c.token_at-token.ensures.ahead in
    (a.1, (c.loop-depth.invariant.1.0, fl.fill_line c.loop-depth.invariant.1.1 c.token_at-token.result c.token_at-token.ensures.text_value c.in-LineEnd.is a))

pub returns-in-End : goal.returns-in-End
returns-in-End c = fl.filled c.loop-depth.invariant.1.1 c.token_at-token.result c.token_at-token.ensures.text_value c.in-End.is

pub returns-in-Wrong : goal.returns-in-Wrong
returns-in-Wrong c = absurd (fl.never_wrong c.loop-depth.invariant.1.1 c.token_at-token.result c.token_at-token.ensures.text_value c.in-Wrong.is)
