use native.Mathlib.Omega.{arith}
use Rattle.record.proofs.RecordSteps as st
use Rattle.record.proofs.fields_needed.Goals as goal
use Rattle.record.proofs.fields_needed.Goals.{then-bits-eq1+else-depth-reader, else-bits-eq1}

pub returns-then-depth-reader : goal.returns-then-depth-reader
returns-then-depth-reader c = λ h. absurd ((h (omega arith)).0 (omega arith) (omega arith))

pub returns-then-bits-eq1-2 : goal.returns-then-bits-eq1-2
returns-then-bits-eq1-2 c = let a = c.args in st.label_needed a.reader.nodes a.reader.deeper a.reader.label a.bits a.depth a.label (omega arith) (elim c.if-bits-eq1.branch [ then-bits-eq1+else-depth-reader w ↦ λ a b. w.if-depth-reader.false b | else-bits-eq1 w ↦ λ a b. w.if-bits-eq1.false a ]) c.if-bits-eq1-2.true

pub returns : goal.returns
returns c = λ h. (elim c.if-bits-eq1.branch [ then-bits-eq1+else-depth-reader w ↦ λ a b. w.if-depth-reader.false b | else-bits-eq1 w ↦ λ a b. w.if-bits-eq1.false a ], λ a b. c.if-bits-eq1-2.false a)
