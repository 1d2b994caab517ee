use borrow.Author.Rules.{rules}
use native.Mathlib.Omega.{arith}
use Prim.Native.Nat.{◌-◌}
use lib.ListN.{length}
use Rattle.sheet_text.proofs.ReadingLaws as tr
use Rattle.sheet_text.proofs.parsing.count.Goals as goal

pub returns-then-text-gt-TEXT : goal.returns-then-text-gt-TEXT
returns-then-text-gt-TEXT c = tr.too_long _ c.if-text-gt-TEXT.true

pub loop-next-init : goal.loop-next-init
loop-next-init c = (omega arith, (omega arith, (omega arith, (omega arith, tr.reading_first _ _ (omega arith) c.new-state.ensures))))

pub returns-in-End : goal.returns-in-End
returns-in-End c = tr.text_ended c.loop-next.invariant.1.1.1.1 c.token_at-token.result c.token_at-token.ensures.text_value c.in-End.is c.ended.result c.ended.ensures

pub returns-in-Wrong : goal.returns-in-Wrong
returns-in-Wrong c = tr.text_wrong c.loop-next.invariant.1.1.1.1 c.token_at-token.result c.token_at-token.ensures.text_value c.in-Wrong.is

pub loop-next-smaller-in-LineEnd : goal.loop-next-smaller-in-LineEnd
loop-next-smaller-in-LineEnd c = let a = tr.ahead_line c.loop-next.at (length c.args.text.now) c.in-LineEnd.is c.token_at-token.ensures.ahead in omega (arith, a.0, a.1)

pub loop-next-preserved-in-LineEnd : goal.loop-next-preserved-in-LineEnd
loop-next-preserved-in-LineEnd c = let a = tr.ahead_line c.loop-next.at (length c.args.text.now) c.in-LineEnd.is c.token_at-token.ensures.ahead in
    (search rules, (a.1, (omega (arith, a.0), (omega (arith, a.0), tr.line_turn c.loop-next.invariant.1.1.1.1 c.token_at-token.result c.token_at-token.ensures.text_value c.in-LineEnd.is a))))

pub returns-then-number-gt0 : goal.returns-then-number-gt0
returns-then-number-gt0 c = tr.pair_refused c.loop-next.invariant.1.1.1.1 c.token_at-token.result c.token_at-token.ensures.text_value c.in-Pair.is c.join-joining.result c.join-joining.ensures c.if-number-gt0.true

pub loop-next-smaller : goal.loop-next-smaller
loop-next-smaller c = let a = tr.ahead_pair c.loop-next.at (length c.args.text.now) c.in-Pair.is c.token_at-token.ensures.ahead in omega (arith, a.0, a.1)

pub loop-next-preserved : goal.loop-next-preserved
loop-next-preserved c = let a = tr.ahead_pair c.loop-next.at (length c.args.text.now) c.in-Pair.is c.token_at-token.ensures.ahead in
    (search rules, (a.1, (omega (arith, a.0), (omega (arith, a.0), tr.next_turn c.loop-next.invariant.1.1.1.1 c.token_at-token.result c.token_at-token.ensures.text_value c.in-Pair.is c.join-joining.result c.join-joining.ensures (omega arith) a))))
