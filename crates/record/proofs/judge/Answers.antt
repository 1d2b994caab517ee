use native.Mathlib.Omega.{arith}
use Rattle.record.proofs.RecordSteps as st
use Rattle.record.proofs.judge.Goals as goal
use Rattle.record.proofs.judge.Goals.{then-reader-eq0+else-bits-ne3, else-reader-eq0}

pub returns-then-bits-gt3 : goal.returns-then-bits-gt3
returns-then-bits-gt3 c = let start = c in
    st.judge_stops start.args.sheet.now start.args.at _ _ _ 1 c.refused.ensures (λ before s. st.record_2 before start.args.sheet.now start.args.at start.requires.1 (omega (arith, c.if-bits-gt3.true)))

pub returns-then-bits-ne3 : goal.returns-then-bits-ne3
returns-then-bits-ne3 c = let start = c in
    st.judge_stops start.args.sheet.now start.args.at _ _ _ 2 c.refused-then-bits-ne3.ensures (λ before s. st.record_3 before start.args.sheet.now start.args.at start.requires.1 (omega (arith, c.if-bits-gt3.false)) (omega (arith, s.nodes_are, c.if-reader-eq0.true)) c.if-bits-ne3.true)

pub returns-then-sheet-at : goal.returns-then-sheet-at
returns-then-sheet-at c = let start = c in
    st.judge_stops start.args.sheet.now start.args.at _ _ _ 3 c.refused-then-sheet-at.ensures (λ before s. st.record_4 before start.args.sheet.now start.args.at start.requires.1 (omega (arith, c.if-bits-gt3.false))
    (elim c.if-reader-eq0.branch [ then-reader-eq0+else-bits-ne3 w ↦ λ z. w.if-bits-ne3.false | else-reader-eq0 w ↦ λ z. absurd (w.if-reader-eq0.false (omega (arith, s.nodes_are))) ]) (omega (arith, c.field_bytes.ensures, c.if-sheet-at.true)))

pub read_fields-fields-requires : goal.read_fields-fields-requires
read_fields-fields-requires c = omega (arith, c.requires.1, c.field_bytes.ensures, c.if-sheet-at.false)

pub broken-requires : goal.broken-requires
broken-requires c = c.requires.0

pub returns : goal.returns
returns c = let start = c in
    let read = c.read_fields-fields.ensures in (
      (λ before s. st.record_on before start.args.sheet.now start.args.at start.requires.1 (omega (arith, c.if-bits-gt3.false)) (elim c.if-reader-eq0.branch [ then-reader-eq0+else-bits-ne3 w ↦ λ z. w.if-bits-ne3.false | else-reader-eq0 w ↦ λ z. absurd (w.if-reader-eq0.false (omega (arith, s.nodes_are))) ])
          (omega (arith, c.field_bytes.ensures, c.if-sheet-at.false)) _ _ _ c.read_fields-fields.result s.deeper_is s.label_is read (c.broken.ensures.by_index before s)),
      (λ z. (c.broken.ensures.may_come z, (omega (arith, read.next_is), omega (arith, read.next_is, start.requires.1, c.field_bytes.ensures, c.if-sheet-at.false)))),
    )
