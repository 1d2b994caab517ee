use mathlib.Core.Path.{refl, sym, ◌∙◌}
use native.Mathlib.Omega.{arith}
use Rattle.sheet.proofs.WalkSteps as st
use Rattle.sheet.proofs.record_at.Goals as goal

pub returns-then-reader-eq0 : goal.returns-then-reader-eq0
returns-then-reader-eq0 c = let z = st.record_stops _ _ _ 1 _ c.refused.ensures (λ before s. st.record_1 before c.args.sheet.now c.args.at c.if-at-sheet.true (st.nodes_of before _ c.reader-reader.ensures s ∙ c.if-reader-eq0.true)) in record { by_index = z.0; moved = z.1 }

pub returns-then-at-sheet : goal.returns-then-at-sheet
returns-then-at-sheet c = record { by_index = (λ before s. record { says = st.record_end before c.args.sheet.now c.args.at c.if-at-sheet.true (λ z. c.if-reader-eq0.false (sym (st.nodes_of before c.args.state c.reader-reader.ensures s) ∙ z)); keeps = s }); moved = (refl, refl) }

pub returns-then-judged-gt0 : goal.returns-then-judged-gt0
returns-then-judged-gt0 c = let z = st.record_refused c.args.sheet.now c.args.at _ c.judge_behind-judged.result c.judge_behind-judged.ensures _ c.if-judged-gt0.true c.refused-then-judged-gt0.ensures in record { by_index = z.0; moved = z.1 }

pub after-requires : goal.after-requires
after-requires c = (c.judge_behind-judged.ensures.1 (omega arith)).0

pub returns : goal.returns
returns c = let z = st.record_node c.args.sheet.now c.args.at c.args.state c.judge_behind-judged.result c.judge_behind-judged.ensures _ (omega arith) refl refl c.after.ensures in record { by_index = z.0; moved = z.1 }
